-- What is kept of a line tells all of it that is needed.
use Rattle.std.proofs.Common.{◌≡◌, ℕ, ◌+◌, ◌-◌, ◌≤◌, ◌==◌, min, Bool, true, false, nat_lt, nat_le, List, [], ◌∷◌, ◌++◌, length, take, get_or, if◌then◌else◌, refl, sym, ◌∙◌, ap, arith}
use Rattle.std.proofs.lemmas.Bool.Decides.{nat_tests}
use Rattle.std.proofs.lemmas.Grind.{common_steps}
use Rattle.std.proofs.lemmas.List.{take_all, take-take, take_min, take-append-le, length-take-le}
use Rattle.std.proofs.Math.Seq.{take-append-add}
use Rattle.ncp_play_script.specs.declared.line_buffer.LineKind.{LineKind}
use Rattle.ncp_play_script.specs.declared.line_buffer.LineKind.TheVariants.{Skipped, TooLong, Played}
use Rattle.ncp_play_script.specs.Lines.{ends_in_cr, text_of_line, line_kind}

pub kept_more : (old bytes : List ℕ) (count : ℕ) → length old ≤ 4098 → count ≡ min (4098 - length old) (length bytes) → old ++ take count bytes ≡ take 4098 (old ++ bytes)
kept_more old bytes count fits e =
    let all : length old + (4098 - length old) ≡ 4098 = omega arith in
    ap (λ n. old ++ take n bytes) e ∙ ap (λ behind. old ++ behind) (take_min (4098 - length old) bytes)
    ∙ sym (take-append-add old bytes (4098 - length old)) ∙ ap (λ n. take n (old ++ bytes)) all

-- a line is short, or what is kept of it is full
short_or_full : (line : List ℕ) (short : Bool) → nat_le (length line) 4098 ≡ short → (P : List ℕ → Type 0) → ((short ≡ true) → take 4098 line ≡ line → P (take 4098 line)) → ((short ≡ false) → 4098 ≤ length line → P (take 4098 line)) → P (take 4098 line)
short_or_full line true e P at_short at_full = at_short refl (take_all 4098 line (grind (arith, nat_tests)))
short_or_full line false e P at_short at_full = at_full refl (grind (arith, nat_tests))

pub same_pieces : (line piece : List ℕ) → take 4098 (take 4098 line ++ piece) ≡ take 4098 (line ++ piece)
same_pieces line piece =
    short_or_full line (nat_le (length line) 4098) refl (λ kept. take 4098 (kept ++ piece) ≡ take 4098 (line ++ piece))
    (λ _ whole. ap (λ kept. take 4098 (kept ++ piece)) whole)
    (λ _ long.
    let full = length-take-le 4098 line long in
    take-append-le 4098 (take 4098 line) piece (omega (arith, full)) ∙ take-take 4098 4098 line (omega arith) ∙ sym (take-append-le 4098 line piece long))

-- ---- long lines

abbrev long_kind : ℕ → LineKind
long_kind byte = if byte == 35 then Skipped else TooLong

kind_here : (byte : ℕ) (long : Bool) → long ≡ true → (if byte == 35 then Skipped else if long then TooLong else Played) ≡ long_kind byte
kind_here byte true e = refl
kind_here byte false e = absurd (cc)

kind_of_long : (text : List ℕ) → 4097 ≤ length text → line_kind text ≡ long_kind (get_or text 0 0)
kind_of_long [] long = absurd (omega (arith, long))
kind_of_long (byte ∷ bytes) long = kind_here byte (nat_lt 4096 (length (byte ∷ bytes))) (grind (arith, nat_tests))

-- a long line says a long text with the same first byte
abbrev IsLong : List ℕ → List ℕ → Type 0
IsLong line text = (4097 ≤ length text) × (get_or text 0 0 ≡ get_or line 0 0)

cut_is_long : (line : List ℕ) (cr : Bool) → 4098 ≤ length line → IsLong line (if cr then take (length line - 1) line else line)
cut_is_long line true long = let len = length-take-le (length line - 1) line (omega arith) in (omega (arith, len), grind (arith, common_steps))
cut_is_long line false long = (omega arith, refl)

text_is_long : (ended : Bool) (line : List ℕ) → 4098 ≤ length line → IsLong line (text_of_line ended line)
text_is_long true line long = cut_is_long line (ends_in_cr line) long
text_is_long false line long = (omega arith, refl)

kind_of_line : (ended : Bool) (line : List ℕ) → 4098 ≤ length line → line_kind (text_of_line ended line) ≡ long_kind (get_or line 0 0)
kind_of_line ended line long = let text = text_is_long ended line long in kind_of_long (text_of_line ended line) text.0 ∙ ap long_kind text.1

kind_of_kept : (ended : Bool) (line : List ℕ) → 4098 ≤ length line → line_kind (text_of_line ended (take 4098 line)) ≡ long_kind (get_or line 0 0)
kind_of_kept ended line long =
    let full = length-take-le 4098 line long in
    let first : get_or (take 4098 line) 0 0 ≡ get_or line 0 0 = grind (arith, common_steps) in
    kind_of_line ended (take 4098 line) (omega (arith, full)) ∙ ap long_kind first

pub same_kind : (ended : Bool) (line : List ℕ) → line_kind (text_of_line ended (take 4098 line)) ≡ line_kind (text_of_line ended line)
same_kind ended line =
    short_or_full line (nat_le (length line) 4098) refl (λ kept. line_kind (text_of_line ended kept) ≡ line_kind (text_of_line ended line))
    (λ _ whole. ap (λ kept. line_kind (text_of_line ended kept)) whole)
    (λ _ long. kind_of_kept ended line long ∙ sym (kind_of_line ended line long))

not_played : (skipped : Bool) → (if skipped then Skipped else TooLong) ≡ Played → ⊥
not_played true e = cc
not_played false e = cc

pub same_text : (ended : Bool) (line : List ℕ) → line_kind (text_of_line ended line) ≡ Played → text_of_line ended (take 4098 line) ≡ text_of_line ended line
same_text ended line played =
    short_or_full line (nat_le (length line) 4098) refl (λ kept. text_of_line ended kept ≡ text_of_line ended line)
    (λ _ whole. ap (λ kept. text_of_line ended kept) whole)
    (λ _ long. absurd (not_played (get_or line 0 0 == 35) (sym (kind_of_line ended line long) ∙ played)))
