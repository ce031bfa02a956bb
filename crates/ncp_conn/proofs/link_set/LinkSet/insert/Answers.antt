use Rattle.std.proofs.Common.{ℕ, ◌<◌, ◌^◌, ◌==◌, true, sym, ap, subst, arith}
use Rattle.std.specs.Int.{w128}
use Rattle.std.proofs.lemmas.Nat.{or_lt, one_shl, pow_below}
use Rattle.std.proofs.lemmas.Nat.Bits.{bit_at_set_same, bit_at_set_other}
use Rattle.ncp_conn.proofs.Links.{changed}
use Rattle.ncp_conn.proofs.link_set.LinkSet.insert.Goals as goal

pub invariant_of-self : goal.invariant_of-self
invariant_of-self c =
    let one = one_shl c.args.link 128 (omega arith) in
    let small : 2 ^ c.args.link < 2 ^ 72 = pow_below c.args.link 72 (omega arith) in
    or_lt 72 c.self.inside.bits _ c.self.invariant (subst (λ (n : ℕ). n < 2 ^ 72) (sym one) small)

pub returns : goal.returns
returns c =
    changed c.self.inside.bits _ c.args.self.now c.args.link true c.self.view_is
    (ap (λ (n : ℕ). n == 1) (bit_at_set_same w128 c.self.inside.bits c.args.link (omega arith)))
    (λ on d. bit_at_set_other w128 c.self.inside.bits c.args.link (omega arith) on d)
