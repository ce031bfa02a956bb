use Rattle.std.proofs.Common.{ℕ, ◌+◌, ◌/◌, ◌^◌, None, subst, arith}
use Rattle.std.specs.Int.{w128, trailing_zeros}
use Rattle.std.proofs.lemmas.Nat.{shr_le}
use Rattle.ncp_conn.specs.Links.{IsLowest, IsLowestIfAny}
use Rattle.ncp_conn.proofs.Links.{none_above, none_past, is_lowest, not_past}
use Rattle.ncp_conn.proofs.link_set.LinkSet.first_from.Goals as goal

pub returns-then-from-gt-LAST_LINK-clause-lowest : goal.returns-then-from-gt-LAST_LINK-clause-lowest
returns-then-from-gt-LAST_LINK-clause-lowest c =
    subst (λ (links : ℕ). IsLowestIfAny links c.args.from None) c.self.view_is (none_past c.self.inside.bits 71 c.args.from c.self.invariant c.if-from-gt-LAST_LINK.true)

pub returns-then-above-eq0-clause-lowest : goal.returns-then-above-eq0-clause-lowest
returns-then-above-eq0-clause-lowest c =
    subst (λ (links : ℕ). IsLowestIfAny links c.args.from None) c.self.view_is (none_above c.self.inside.bits c.args.from c.if-above-eq0.true)

pub returns-clause-lowest : goal.returns-clause-lowest
returns-clause-lowest c =
    let small = shr_le c.self.inside.bits c.args.from in
    let bits = c.self.invariant in
    let some = c.if-above-eq0.false in
    subst (λ (links : ℕ). IsLowest links c.args.from (c.args.from + trailing_zeros w128 (c.self.inside.bits / 2 ^ c.args.from))) c.self.view_is (is_lowest c.self.inside.bits c.args.from (omega arith) (omega arith))

pub returns-clause-last : goal.returns-clause-last
returns-clause-last c =
    let small = shr_le c.self.inside.bits c.args.from in
    let bits = c.self.invariant in
    let some = c.if-above-eq0.false in
    not_past c.self.inside.bits c.args.from (omega arith) (omega arith) 71 c.self.invariant
