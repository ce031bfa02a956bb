-- A number read digit by digit.
use Rattle.std.proofs.Common.{◌≡◌, ℕ, ◌+◌, ◌-◌, ◌*◌, ◌^◌, ◌<◌, ◌≤◌, ◌&&◌, List, length, drop, get_or, arith}
use Rattle.std.specs.Char.{is_ascii_digit}
use Rattle.std.specs.Str.{all_ascii_digits}
use Rattle.std.proofs.lemmas.List.{at_drop_more}
use Rattle.std.proofs.lemmas.Grind.{pow_more}
use Rattle.std.proofs.Math.Nat.{pow-le-pow_right}
use Rattle.ncp_play_script.specs.Words.{value_after}

pub value_step : (number : ℕ) (word : List ℕ) (i : ℕ) → i < length word → value_after number (drop i word) ≡ value_after (10 * number + (get_or word i 0 - 48)) (drop (i + 1) word)
value_step number word i inside = at_drop_more (value_after number) word i 0 inside

pub digits_step : (word : List ℕ) (i : ℕ) → i < length word → all_ascii_digits (drop i word) ≡ (is_ascii_digit (get_or word i 0) && all_ascii_digits (drop (i + 1) word))
digits_step word i inside = at_drop_more all_ascii_digits word i 0 inside

pub room : (number i : ℕ) → number < 10 ^ i → i < 10 → number < 10 ^ 9
room number i small inside = let most : 10 ^ i ≤ 10 ^ 9 = pow-le-pow_right {n = 10} (omega arith) {i = i} {j = 9} (omega arith) in omega (arith, most)

pub small_step : (number digit i : ℕ) → number < 10 ^ i → digit < 10 → 10 * number + digit < 10 ^ (i + 1)
small_step number digit i small least = let more = pow_more 10 i in omega (arith, more)
