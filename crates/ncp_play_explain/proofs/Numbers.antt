-- Numbers in words, and the last digits of bits.
use Rattle.std.proofs.Common.{◌≡◌, ◌<◌, ◌≤◌, ◌+◌, ◌-◌, ◌*◌, ◌%◌, ◌^◌, ◌&&◌, ℕ, true, false, not, List, [], ◌∷◌, length, drop, get_or, None, Err, nat_eq, nat_le, nat_lt, refl, sym, ap, ◌∙◌, arith, rules}
use Rattle.std.proofs.lemmas.Bool.{false_from_ne_true, leb-true, ltb-true}
use Rattle.std.proofs.lemmas.List.Recursion.{and_at}
use Rattle.std.proofs.lemmas.Str.Parse.{IsNumeralModel, numerals_by_value, parse_digits}
use Rattle.std.proofs.Math.ListN.{drop_of_length-le}
use Rattle.std.proofs.Math.Nat.{mod-eq_of_lt, pow-le-pow_right}
use Rattle.std.specs.Char.{digit_value, is_ascii_digit, is_ascii_hexdigit}
use Rattle.std.specs.List.{list_all}
use Rattle.std.specs.Str.Parse.{ParsesUnsigned, digits_value}
use Rattle.ncp_play_explain.specs.Arguments.{has_digits, has_spare_bit, number_in}
use Rattle.ncp_play_explain.proofs.Apart.{both}
use Rattle.ncp_play_explain.proofs.Places.{rest_from}

own : IsNumeralModel (λ ds. list_all is_ascii_digit ds ≡ true) (digits_value 10)
own = numerals_by_value (λ ds. list_all is_ascii_digit ds ≡ true) (search rules)

digits_in : (word : List ℕ) → has_digits word ≡ true → (0 < length word) × (list_all is_ascii_digit word ≡ true)
digits_in word h =
    let parts = both (nat_lt 0 (length word) && nat_le (length word) 10) (list_all is_ascii_digit word) h in
    (ltb-true 0 (length word) (both (nat_lt 0 (length word)) (nat_le (length word) 10) parts.0).0, parts.1)

-- decimal digits that are no number of four bytes
pub not_read : {E : Type 0} (most : ℕ) (word : List ℕ) (e : E) → most < 2 ^ 32 → has_digits word ≡ true → ParsesUnsigned {E = E} 32 10 word (Err e) → None ≡ number_in most word
not_read most word e fits digits parsed =
    let parts = digits_in word digits in
    let great : nat_le (digits_value 10 word) most ≡ false =
    false_from_ne_true _ (λ small. parse_digits own 32 word (Err e) parsed parts.1 (parts.0, omega (arith, leb-true (digits_value 10 word) most small))) in
    rw (digits, great) refl

last_two : (xs : List ℕ) → 2 ≤ length xs → drop (length xs - 2) xs ≡ get_or xs (length xs - 2) 0 ∷ get_or xs (length xs - 1) 0 ∷ []
last_two xs h =
    let next : length xs - 2 + 1 ≡ length xs - 1 = omega arith in
    rest_from xs (length xs - 2) 0 (omega arith)
    ∙ ap (λ rest. get_or xs (length xs - 2) 0 ∷ rest) (ap (λ i. drop i xs) next ∙ rest_from xs (length xs - 1) 0 (omega arith) ∙ ap (λ rest. get_or xs (length xs - 1) 0 ∷ rest) (drop_of_length-le xs (omega arith)))

shifted : (spare : ℕ) → spare < 8 → 1 * 2 ^ spare % 4294967296 ≡ 2 ^ spare
shifted spare h =
    let small : 2 ^ spare ≤ 2 ^ 7 = pow-le-pow_right {n = 2} (omega arith) {i = spare} {j = 7} (omega arith) in
    let one : 1 * 2 ^ spare ≡ 2 ^ spare = omega arith in
    ap (λ n. n % 4294967296) one ∙ mod-eq_of_lt (omega arith)

-- the byte of the last two digits, by the last bits
module _ (digits : List ℕ) (hex : list_all is_ascii_hexdigit digits ≡ true) (long : 2 ≤ length digits) where
  digit_at : (i : ℕ) → i < length digits → is_ascii_hexdigit (get_or digits i 0) ≡ true
  digit_at i h = and_at (list_all is_ascii_hexdigit) is_ascii_hexdigit refl (λ _ _. refl) digits i 0 h hex

  pub last_bits : (spare high low : ℕ) → spare < 8 → (is_ascii_hexdigit (get_or digits (length digits - 2) 0) ≡ true → high ≡ digit_value (get_or digits (length digits - 2) 0))
      → (is_ascii_hexdigit (get_or digits (length digits - 1) 0) ≡ true → low ≡ digit_value (get_or digits (length digits - 1) 0))
      → not (nat_eq ((high * 16 + low) % (1 * 2 ^ spare % 4294967296)) 0) ≡ has_spare_bit spare digits
  last_bits spare high low few at_high at_low =
      let h = at_high (digit_at (length digits - 2) (omega arith)) in
      let l = at_low (digit_at (length digits - 1) (omega arith)) in
      let byte : high * 16 + low ≡ (0 * 16 + digit_value (get_or digits (length digits - 2) 0)) * 16 + digit_value (get_or digits (length digits - 1) 0) = omega arith in
      let value : high * 16 + low ≡ digits_value 16 (drop (length digits - 2) digits) = byte ∙ ap (digits_value 16) (sym (last_two digits long)) in
      ap (λ n. not (nat_eq ((high * 16 + low) % n) 0)) (shifted spare few) ∙ ap (λ n. not (nat_eq (n % 2 ^ spare) 0)) value
