use Rattle.std.proofs.Common.{◌≤◌, ◌*◌, ℕ, sym, subst}
use Rattle.std.specs.Int.{div_ceil}
use Rattle.std.proofs.Math.Nat.{min-le_left}
use Rattle.ncp_model.specs.Amounts.{back}
use Rattle.ncp_conn.proofs.entry.allocation.part_back.Goals as goal

back-le : (counter fraction : ℕ) → back counter fraction ≤ counter
unfolding back
back-le counter fraction = min-le_left counter (div_ceil (counter * fraction) 128)

pub returns-clause-within : goal.returns-clause-within
returns-clause-within c = subst (λ (n : ℕ). n ≤ c.args.counter) (sym c.give_back.ensures) (back-le c.args.counter c.args.fraction)
