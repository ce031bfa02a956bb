-- Requests: the lowest free link, and what an act is by its tests.
use Rattle.std.proofs.Common.{◌≡◌, ℕ, suc, ◌<◌, ◌≤◌, Bool, true, false, cond, nat_lt, nat_le, refl, ap, arith}
use Rattle.std.proofs.lemmas.Bool.Decides.{nat_tests}
use Rattle.ncp_model.specs.Ends.{lowest}

pub lt_yes : (a b : ℕ) → a < b → nat_lt a b ≡ true
lt_yes a b h = grind (arith, nat_tests)

pub lt_no : (a b : ℕ) → b ≤ a → nat_lt a b ≡ false
lt_no a b h = grind (arith, nat_tests)

pub le_yes : (a b : ℕ) → a ≤ b → nat_le a b ≡ true
le_yes a b h = grind (arith, nat_tests)

pub le_no : (a b : ℕ) → b < a → nat_le a b ≡ false
le_no a b h = grind (arith, nat_tests)

pub lowest_end : (test : ℕ → Bool) (n from : ℕ) → n ≡ 0 → lowest test n from ≡ from
unfolding lowest
lowest_end test n from h = rw h refl

pub lowest_yes : (test : ℕ → Bool) (n m from : ℕ) → n ≡ suc m → test from ≡ true → lowest test n from ≡ from
unfolding lowest
lowest_yes test n m from h t = rw h (ap (λ (b : Bool). cond b from (lowest test m (suc from))) t)

pub lowest_no : (test : ℕ → Bool) (n m from : ℕ) → n ≡ suc m → test from ≡ false → lowest test n from ≡ lowest test m (suc from)
unfolding lowest
lowest_no test n m from h t = rw h (ap (λ (b : Bool). cond b from (lowest test m (suc from))) t)
