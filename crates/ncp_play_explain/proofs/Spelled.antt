-- The first strange byte, byte by byte.
use Rattle.std.proofs.Common.{◌≡◌, ◌==◌, ◌<◌, ◌≤◌, ◌+◌, ℕ, Bool, true, false, if◌then◌else◌, List, [], ◌∷◌, ◌++◌, length, drop, get_or, None, Some, refl, ap, ◌∙◌, codes, decimal, append_assoc, inl, inr, arith}
use Rattle.std.proofs.lemmas.Bool.Decides.{nat_tests}
use Rattle.std.specs.Str.Iter.{HasSubslice}
use Rattle.std.specs.Str.{IsAscii, IsUtf8}
use Rattle.std.proofs.lemmas.Str.{IsUtf8-from_ascii}
use Rattle.std.proofs.lemmas.Str.Ascii.{IsAscii-nil, IsAscii-cons}
use Rattle.std.proofs.Math.ListN.{drop_of_length-le}
use Rattle.ncp_play_explain.specs.Bytes.{hex_glyphs}
use Rattle.ncp_play_explain.proofs.Places.{rest_from}
use Rattle.ncp_play_explain.specs.Spelling.{is_sign, strange_from, byte_printed, IsWellSpaced, IsWellSpelled}

pub next_sign : (text : List ℕ) (i : ℕ) → i < length text → is_sign (get_or text i 0) ≡ true → strange_from (i + 1) (drop i text) ≡ strange_from (i + 1 + 1) (drop (i + 1) text)
next_sign text i h t = ap (λ l. strange_from (i + 1) l) (rest_from text i 0 h) ∙ rw t refl

pub here_strange : (text : List ℕ) (i : ℕ) → i < length text → is_sign (get_or text i 0) ≡ false → strange_from (i + 1) (drop i text) ≡ Some (i + 1, get_or text i 0)
here_strange text i h t = ap (λ l. strange_from (i + 1) l) (rest_from text i 0 h) ∙ rw t refl

pub none_strange : (text : List ℕ) (i : ℕ) → length text ≤ i → strange_from (i + 1) (drop i text) ≡ None
none_strange text i h = ap (λ l. strange_from (i + 1) l) (drop_of_length-le text h)

-- ---- what is printed of a byte, with its pieces from behind
pub printed_tab : (place byte : ℕ) → byte ≡ 9 → byte_printed place byte ≡ codes "a tab, at byte " ++ (decimal place ++ codes "; words stand one space apart")
printed_tab place byte e = ap (byte_printed place) e ∙ append_assoc (codes "a tab, at byte ") (decimal place) (codes "; words stand one space apart")

pub printed_return : (place byte : ℕ) → byte ≡ 13 → byte_printed place byte ≡ codes "a carriage return, at byte " ++ (decimal place ++ codes ", with no line feed after it")
printed_return place byte e = ap (byte_printed place) e ∙ append_assoc (codes "a carriage return, at byte ") (decimal place) (codes ", with no line feed after it")

pub other_printed : (place byte : ℕ) → (byte == 9) ≡ false → (byte == 13) ≡ false →
    byte_printed place byte ≡ codes "byte " ++ (decimal place ++ (codes " is " ++ (hex_glyphs byte ++ codes ", which is no letter, digit or sign of ASCII")))
other_printed place byte a b =
    rw (a, b) (append_assoc (codes "byte " ++ decimal place ++ codes " is ") (hex_glyphs byte) (codes ", which is no letter, digit or sign of ASCII")
    ∙ append_assoc (codes "byte " ++ decimal place) (codes " is ") (hex_glyphs byte ++ codes ", which is no letter, digit or sign of ASCII")
    ∙ append_assoc (codes "byte ") (decimal place) (codes " is " ++ (hex_glyphs byte ++ codes ", which is no letter, digit or sign of ASCII")))

-- ---- a line of signs is ASCII
sign_is_ascii : (byte : ℕ) → is_sign byte ≡ true → byte < 128
sign_is_ascii byte t = grind (arith, nat_tests)

signs_are_ascii : (place : ℕ) (line : List ℕ) → strange_from place line ≡ None → IsAscii line
signs_are_ascii place [] h = IsAscii-nil
signs_are_ascii place (byte ∷ rest) h = go (is_sign byte) refl h (signs_are_ascii (place + 1) rest)
  where
    go : (t : Bool) → is_sign byte ≡ t → (if t then strange_from (place + 1) rest else Some (place, byte)) ≡ None → (strange_from (place + 1) rest ≡ None → IsAscii rest) → IsAscii (byte ∷ rest)
    go true e h more = IsAscii-cons byte rest (sign_is_ascii byte e) (more h)
    go false e h more = absurd cc

-- and text
pub signs_are_text : (line : List ℕ) → strange_from 1 line ≡ None → IsUtf8 line
signs_are_text line h = IsUtf8-from_ascii line (signs_are_ascii 1 line h)

pub spelled_is_text : (line : List ℕ) → IsWellSpelled line → IsUtf8 line
spelled_is_text line spelled = signs_are_text line spelled.signs

-- and a line of no bytes is well spaced
has_none : (byte : ℕ) (rest : List ℕ) → HasSubslice [] (byte ∷ rest) → ⊥
has_none byte rest ([], _, e) = absurd cc
has_none byte rest (_ ∷ _, _, e) = absurd cc

pub empty_is_spaced : (line : List ℕ) → (length line == 0) ≡ true → IsWellSpaced line
empty_is_spaced [] e = record { front = refl; remark = has_none 32 (35 ∷ []); gap = λ gap. elim gap [ inl wide ↦ has_none 32 (32 ∷ []) wide | inr end ↦ absurd cc ] }
empty_is_spaced (byte ∷ rest) e = grind (arith, nat_tests)
