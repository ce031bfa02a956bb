use Rattle.std.proofs.Common.{◌≡◌, length}
use Rattle.std.proofs.lemmas.Bool.Decides.{Decides-eqb}
use Rattle.ncp_bits.proofs.Runs.{length-packed}
use Rattle.ncp_bits.proofs.bits.Bits.is_empty.Goals as goal

pub returns : goal.returns
returns c =
    let l : c.self.inside.len ≡ length c.args.self.now = length-packed c.self.invariant c.self.view_is in
    rw (← l) (Decides-eqb c.self.inside.len 0)
