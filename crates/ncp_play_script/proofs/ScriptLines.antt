-- Where the lines of bytes end.
use Rattle.std.proofs.Common.{◌≡◌, ℕ, suc, ◌+◌, ◌<◌, Bool, true, false, not, cond, nat_lt, List, [], ◌∷◌, ◌++◌, length, take, drop, get_or, Some, None, position, if◌then◌else◌, refl, sym, ap, ◌∙◌, append_assoc, arith}
use Rattle.std.specs.List.{position_or_len, before_first}
use Rattle.std.proofs.lemmas.Bool.Decides.{nat_tests}
use Rattle.std.proofs.lemmas.List.{get_or-take, length-take-le}
use Rattle.std.proofs.lemmas.List.Sums.{fails_before_first, passes_at_first, split_at_first, position_or_len_is}
use Rattle.ncp_play_script.specs.declared.line_buffer.TheConstants.{LF}
use Rattle.ncp_play_script.specs.Lines.{is_lf}
use Rattle.ncp_play_script.specs.Scripts.{Line, onto_line, lines_of}
use Rattle.ncp_play_script.proofs.Cuts.{is_found, is_not_found, tail_uncut}

-- a byte that is no LF is of the first line behind it
goes_on : (lf : Bool) (byte : ℕ) (behind : List ℕ) (lines : List Line) → lf ≡ false → (if lf then record { bytes = []; ended = true; behind = behind } ∷ lines else onto_line byte lines) ≡ onto_line byte lines
goes_on true byte behind lines e = absurd (cc)
goes_on false byte behind lines e = refl

ended_at : (text behind : List ℕ) → nat_lt (position_or_len is_lf text) (length text) ≡ false → lines_of (text ++ LF ∷ behind) ≡ record { bytes = text; ended = true; behind = behind } ∷ lines_of behind
ended_at [] behind none = refl
ended_at (byte ∷ text) behind none =
    let tail = tail_uncut (is_lf byte) (position_or_len is_lf text) (length text) none in
    goes_on (is_lf byte) byte (text ++ LF ∷ behind) (lines_of (text ++ LF ∷ behind)) tail.0 ∙ ap (λ lines. onto_line byte lines) (ended_at text behind tail.1)

last_of : (byte : ℕ) (text : List ℕ) → nat_lt (position_or_len is_lf (byte ∷ text)) (length (byte ∷ text)) ≡ false → lines_of (byte ∷ text) ≡ record { bytes = byte ∷ text; ended = false; behind = [] } ∷ []
last_of byte [] none = goes_on (is_lf byte) byte [] [] ((tail_uncut (is_lf byte) (position_or_len is_lf []) 0 none).0)
last_of byte (next ∷ text) none =
    let tail = tail_uncut (is_lf byte) (position_or_len is_lf (next ∷ text)) (length (next ∷ text)) none in
    goes_on (is_lf byte) byte (next ∷ text) (lines_of (next ∷ text)) tail.0 ∙ ap (λ lines. onto_line byte lines) (last_of next text tail.1)

pub line_ended : (text behind : List ℕ) → position is_lf text ≡ None → lines_of (text ++ LF ∷ behind) ≡ record { bytes = text; ended = true; behind = behind } ∷ lines_of behind
line_ended text behind none = ended_at text behind (is_not_found (nat_lt (position_or_len is_lf text) (length text)) (position_or_len is_lf text) (sym none))

pub line_last : (byte : ℕ) (text : List ℕ) → position is_lf (byte ∷ text) ≡ None → lines_of (byte ∷ text) ≡ record { bytes = byte ∷ text; ended = false; behind = [] } ∷ []
line_last byte text none = last_of byte text (is_not_found (nat_lt (position_or_len is_lf (byte ∷ text)) (length (byte ∷ text))) (position_or_len is_lf (byte ∷ text)) (sym none))

-- ---- lines that come in pieces

abbrev NoLf : List ℕ → Type 0
NoLf text = nat_lt (position_or_len is_lf text) (length text) ≡ false

no_lf : (text : List ℕ) → position is_lf text ≡ None → NoLf text
no_lf text none = is_not_found (nat_lt (position_or_len is_lf text) (length text)) (position_or_len is_lf text) (sym none)

onto_uncut : (lf : Bool) (at len : ℕ) → lf ≡ false → nat_lt at len ≡ false → nat_lt (cond (not lf) (1 + at) 0) (suc len) ≡ false
onto_uncut true at len e none = absurd (cc)
onto_uncut false at len e none = grind (arith, nat_tests)

uncut_joined : (line text : List ℕ) → NoLf line → NoLf text → NoLf (line ++ text)
uncut_joined [] text none none' = none'
uncut_joined (byte ∷ line) text none none' =
    let tail = tail_uncut (is_lf byte) (position_or_len is_lf line) (length line) none in
    onto_uncut (is_lf byte) (position_or_len is_lf (line ++ text)) (length (line ++ text)) tail.0 (uncut_joined line text tail.1 none')

not_there : (there : Bool) (at : ℕ) → there ≡ false → cond there (Some at) None ≡ None
not_there true at e = absurd (cc)
not_there false at e = refl

pub no_lf_joined : (line text : List ℕ) → position is_lf line ≡ None → position is_lf text ≡ None → position is_lf (line ++ text) ≡ None
no_lf_joined line text none none' =
    not_there (nat_lt (position_or_len is_lf (line ++ text)) (length (line ++ text))) (position_or_len is_lf (line ++ text)) (uncut_joined line text (no_lf line none) (no_lf text none'))

-- no LF stands before the first
uncut_before : (piece : List ℕ) → position_or_len is_lf piece < length piece → NoLf (before_first is_lf piece)
uncut_before piece inside =
    let n = position_or_len is_lf piece in
    let len : length (take n piece) ≡ n = length-take-le n piece (omega arith) in
    let none : (k : ℕ) → k < length (take n piece) → is_lf (get_or (take n piece) k 0) ≡ false =
    λ k below. let lower : k < n = omega (arith, len) in rw (get_or-take n piece k 0 lower) (fails_before_first is_lf piece k 0 lower) in
    let all : position_or_len is_lf (take n piece) ≡ length (take n piece) = position_or_len_is is_lf (take n piece) (length (take n piece)) 0 (omega arith) none (λ below. absurd (omega (arith, below))) in
    grind (arith, nat_tests)

-- a piece ends the line that is underway
pub piece_ends_line : (line piece rest : List ℕ) (place : ℕ) → position is_lf line ≡ None → position is_lf piece ≡ Some place → lines_of (line ++ (piece ++ rest)) ≡ record { bytes = line ++ before_first is_lf piece; ended = true; behind = drop (place + 1) piece ++ rest } ∷ lines_of (drop (place + 1) piece ++ rest)
piece_ends_line line piece rest place none found =
    let n = position_or_len is_lf piece in
    let at = is_found (nat_lt n (length piece)) n place (sym found) in
    let inside : n < length piece = grind (arith, nat_tests, at.0) in
    let before = before_first is_lf piece in
    let after = drop (n + 1) piece in
    let passes = passes_at_first is_lf piece 0 inside in
    let lf : get_or piece n 0 ≡ LF = grind (arith, nat_tests, passes) in
    let split : piece ≡ before ++ (LF ∷ after) = split_at_first is_lf piece 0 inside ∙ ap (λ byte. before ++ (byte ∷ after)) lf in
    let joined : line ++ (piece ++ rest) ≡ (line ++ before) ++ (LF ∷ (after ++ rest)) =
    ap (λ p. line ++ (p ++ rest)) split ∙ ap (λ bytes. line ++ bytes) (append_assoc before (LF ∷ after) rest) ∙ sym (append_assoc line before (LF ∷ (after ++ rest))) in
    let there : lines_of (line ++ (piece ++ rest)) ≡ record { bytes = line ++ before; ended = true; behind = after ++ rest } ∷ lines_of (after ++ rest) =
    ap lines_of joined ∙ ended_at (line ++ before) (after ++ rest) (uncut_joined line before (no_lf line none) (uncut_before piece inside)) in
    rw at.1 there
