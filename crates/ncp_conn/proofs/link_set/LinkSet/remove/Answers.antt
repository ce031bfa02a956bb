use Rattle.std.proofs.Common.{ℕ, ◌==◌, false, ap, arith}
use Rattle.std.specs.Int.{w128}
use Rattle.std.proofs.lemmas.Nat.Bits.{bit_at_clear_same}
use Rattle.ncp_conn.proofs.Links.{changed, cleared}
use Rattle.ncp_conn.proofs.link_set.LinkSet.remove.Goals as goal

pub returns : goal.returns
returns c =
    changed c.self.inside.bits _ c.args.self.now c.args.link false c.self.view_is
    (ap (λ (n : ℕ). n == 1) (bit_at_clear_same w128 c.self.inside.bits c.args.link (omega arith)))
    (λ on d. cleared c.self.inside.bits c.args.link (omega arith) (omega (arith, c.self.invariant)) on d)
