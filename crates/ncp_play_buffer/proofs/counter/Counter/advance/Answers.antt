use Rattle.std.proofs.Common.{◌≡◌, ◌≤◌, ◌+◌, ◌-◌, ◌/◌, ◌%◌, ℕ, take, set, decimal, length, sym, ap, subst, arith}
use Rattle.std.proofs.lemmas.List.{length-take-le}
use Rattle.ncp_play_buffer.proofs.Decimal.{some_digit, last_digit}
use Rattle.ncp_play_buffer.proofs.counter.Counter.advance.Goals as goal

pub overflow_sub-self : goal.overflow_sub-self
overflow_sub-self c = omega (arith, some_digit c.self.inside.number (omega arith), ap length c.self.invariant.1, length-take-le c.self.inside.count c.self.inside.digits (omega arith))

pub invariant_of-self : goal.invariant_of-self
invariant_of-self c =
    let now = c.self.inside in let next = c.saturating_add-next.result in
    let some : 1 ≤ now.count = omega (arith, some_digit now.number (omega arith), ap length c.self.invariant.1, length-take-le now.count now.digits (omega arith)) in
    let back : now.count - 1 + 1 ≡ now.count = omega (arith, some) in
    let same : now.number / 10 ≡ next / 10 = omega (arith, c.saturating_add-next.ensures) in
    let was : take (now.count - 1 + 1) now.digits ≡ decimal now.number = subst (λ (m : ℕ). take m now.digits ≡ decimal now.number) (sym back) c.self.invariant.1 in (
      c.self.invariant.0,
      subst (λ (m : ℕ). take m (set now.digits (now.count - 1) (48 + next % 10)) ≡ decimal next) back
          (last_digit now.digits (now.count - 1) now.number next same (omega arith) (omega arith) (omega (arith, back)) was),
    )
