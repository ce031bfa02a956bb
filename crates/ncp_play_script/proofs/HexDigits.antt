-- Bytes read digit by digit.
use Rattle.std.proofs.Common.{◌≡◌, ℕ, suc, ◌+◌, ◌-◌, ◌*◌, ◌≤◌, ◌==◌, Bool, true, false, List, [], ◌∷◌, ◌++◌, length, take, drop, get_or, Option, Some, None, IfSome, option_map, refl, sym, ap, ◌∙◌, subst, append_assoc, length-append, length-drop, arith}
use Rattle.std.specs.Result.{result_ok}
use Rattle.std.proofs.lemmas.Bool.Decides.{nat_tests}
use Rattle.std.proofs.lemmas.Grind.{common_steps}
use Rattle.ncp_numbers.specs.Bytes.{bytes_for}
use Rattle.ncp_bits.specs.Bits.{read_bytes}
use Rattle.ncp_play_script.specs.BitStrings.{hex_value, hex_bytes, with_byte, bits_in_bytes, bits_in_hex}

pub hex_step : (digits : List ℕ) → 2 ≤ length digits → hex_bytes digits ≡ with_byte (hex_value (get_or digits 0 0)) (hex_value (get_or digits 1 0)) (hex_bytes (drop 2 digits))
hex_step [] two = absurd (omega (arith, two))
hex_step (high ∷ []) two = absurd (omega (arith, two))
hex_step (high ∷ low ∷ digits) two = refl

pub joined : (bytes : List ℕ) (high low : ℕ) (more : Option (List ℕ)) → option_map (λ behind. bytes ++ behind) (with_byte (Some high) (Some low) more) ≡ option_map (λ behind. (bytes ++ (16 * high + low) ∷ []) ++ behind) more
joined bytes high low None = refl
joined bytes high low (Some more) = ap Some (sym (append_assoc bytes ((16 * high + low) ∷ []) more))

all_following : (digits : List ℕ) (count : ℕ) → count ≡ length digits - 2 → take count (drop 2 digits) ≡ drop 2 digits
all_following digits count e = grind (arith, common_steps)

-- two digits were read, and their byte was appended
pub next_round : (digits rest bytes bytes' : List ℕ) (high low count : ℕ) → hex_bytes digits ≡ option_map (λ behind. bytes ++ behind) (hex_bytes rest) → 2 ≤ length rest → Some high ≡ hex_value (get_or rest 0 0) → Some low ≡ hex_value (get_or rest 1 0) → bytes' ≡ bytes ++ (16 * high + low) ∷ [] → count ≡ length rest - 2 → hex_bytes digits ≡ option_map (λ behind. bytes' ++ behind) (hex_bytes (take count (drop 2 rest)))
next_round digits rest bytes bytes' high low count before two first second push e =
    let step : hex_bytes rest ≡ with_byte (Some high) (Some low) (hex_bytes (drop 2 rest)) =
    hex_step rest two ∙ ap (λ h. with_byte h (hex_value (get_or rest 1 0)) (hex_bytes (drop 2 rest))) (sym first) ∙ ap (λ l. with_byte (Some high) l (hex_bytes (drop 2 rest))) (sym second) in
    rw (all_following rest count e, push) (before ∙ ap (λ o. option_map (λ behind. bytes ++ behind) o) step ∙ joined bytes high low (hex_bytes (drop 2 rest)))

pub room_left : (rest bytes bytes' : List ℕ) (byte most count : ℕ) → 2 * length bytes + length rest ≤ most → 2 ≤ length rest → bytes' ≡ bytes ++ byte ∷ [] → count ≡ length rest - 2 → 2 * length bytes' + length (take count (drop 2 rest)) ≤ most
room_left rest bytes bytes' byte most count room two push e =
    let len = length-append bytes (byte ∷ []) in let behind = length-drop 2 rest in rw (all_following rest count e, push) (omega (arith, len, behind))

-- each byte takes two digits
one_more : (high low : Option ℕ) (bytes : Option (List ℕ)) (count : ℕ) → IfSome bytes (λ bs. 2 * length bs ≡ count) → IfSome (with_byte high low bytes) (λ bs. 2 * length bs ≡ suc (suc count))
one_more None low bytes count e = tt
one_more (Some high) None bytes count e = tt
one_more (Some high) (Some low) None count e = tt
one_more (Some high) (Some low) (Some bytes) count e = omega (arith, e)

pub hex_length : (digits : List ℕ) → IfSome (hex_bytes digits) (λ bs. 2 * length bs ≡ length digits)
hex_length [] = refl
hex_length (high ∷ []) = tt
hex_length (high ∷ low ∷ digits) = one_more (hex_value high) (hex_value low) (hex_bytes digits) (length digits) (hex_length digits)

-- bits in another number of digits are none
other_count : (len : ℕ) (bytes : List ℕ) (same : Bool) → (length bytes == bytes_for len) ≡ same → same ≡ false → bits_in_bytes len bytes ≡ None
other_count len bytes same e differs = rw (e, differs) refl

count_none : (len count : ℕ) (bytes : Option (List ℕ)) → IfSome bytes (λ bs. 2 * length bs ≡ count) → (count ≡ 2 * bytes_for len → ⊥) → bits_in_hex len bytes ≡ None
count_none len count None e other = refl
count_none len count (Some bytes) e other =
    let differ : (length bytes == bytes_for len) ≡ false = grind (arith, nat_tests) in
    other_count len bytes (length bytes == bytes_for len) refl differ

pub hex_none : (len : ℕ) (digits : List ℕ) → (length digits ≡ 2 * bytes_for len → ⊥) → bits_in_hex len (hex_bytes digits) ≡ None
hex_none len digits other = count_none len (length digits) (hex_bytes digits) (hex_length digits) other

same_count : (len : ℕ) (bytes : List ℕ) → (length bytes == bytes_for len) ≡ true → bits_in_bytes len bytes ≡ result_ok (read_bytes bytes len)
same_count len bytes same = rw same refl

pub hex_some : (len : ℕ) (digits bytes : List ℕ) → Some bytes ≡ hex_bytes digits → length digits ≡ 2 * bytes_for len → bits_in_hex len (hex_bytes digits) ≡ result_ok (read_bytes bytes len)
hex_some len digits bytes read same =
    let twice : 2 * length bytes ≡ length digits = let P : Option (List ℕ) → Type 0 = λ o. IfSome o (λ bs. 2 * length bs ≡ length digits) in subst P (sym read) (hex_length digits) in
    let equal : (length bytes == bytes_for len) ≡ true = grind (arith, nat_tests) in
    ap (λ o. bits_in_hex len o) (sym read) ∙ same_count len bytes equal
