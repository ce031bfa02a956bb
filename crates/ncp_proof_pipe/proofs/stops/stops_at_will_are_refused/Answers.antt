use Rattle.std.proofs.Common.{◌≡◌, ◌≤◌, ℕ, arith}
use Rattle.ncp_proof_pipe.proofs.stops.stops_at_will_are_refused.Goals as goal

enough : (n : ℕ) → n ≡ 1 → 1 ≤ n
enough n e = omega (arith, e)

none : (k n : ℕ) → n ≡ 0 → 1 ≤ k → k ≤ n → ⊥
none k n e l m = omega (arith, e, l, m)

two : (n : ℕ) → n ≡ 1 → 2 ≤ n → ⊥
two n e l = omega (arith, e, l)

zero-le : (n : ℕ) → 0 ≤ n
zero-le n = omega arith

pub returns-clause-explained : goal.returns-clause-explained
returns-clause-explained c pair told e = (enough _ e, zero-le _)

pub returns-clause-cut : goal.returns-clause-cut
returns-clause-cut c pair told e k = none 1 _ e (omega arith) k.0

pub returns-clause-twice : goal.returns-clause-twice
returns-clause-twice c pair told e k = two _ e k.0

pub returns-clause-coming_up : goal.returns-clause-coming_up
returns-clause-coming_up c pair k = absurd (omega (arith, k.0))

pub returns-clause-leave : goal.returns-clause-leave
returns-clause-leave c pair told e k = none 1 _ e (omega arith) k.1
