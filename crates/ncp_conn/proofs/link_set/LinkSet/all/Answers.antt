use Rattle.std.proofs.Common.{ℕ, ◌==◌, ap, arith}
use Rattle.std.proofs.lemmas.Nat.Bits.{bit_at_ones}
use Rattle.ncp_conn.proofs.link_set.LinkSet.all.Goals as goal

pub returns : goal.returns
returns c = λ on l. ap (λ (n : ℕ). n == 1) (bit_at_ones 72 on (omega arith))
