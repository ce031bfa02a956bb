-- A line that is read piece by piece.
use Rattle.std.proofs.Common.{◌≡◌, ℕ, ◌+◌, ◌<◌, ◌≤◌, ◌==◌, Bool, true, false, nat_lt, List, [], ◌∷◌, ◌++◌, length, take, drop, Option, Some, None, Result, Ok, Err, position, refl, sym, ap, ◌∙◌, subst, append_assoc, arith}
use Rattle.std.specs.List.{position_or_len, before_first}
use Rattle.std.specs.Result.{IsErr}
use Rattle.std.specs.Io.KnownBytes.{IsAtEnd}
use Rattle.std.proofs.lemmas.Bool.Decides.{nat_tests}
use Rattle.std.proofs.lemmas.List.{take_all, append-nil, length-take, length-drop}
use Rattle.std.proofs.lemmas.Grind.{common_steps}
use Rattle.ncp_play_buffer.specs.InBuffers.{read_measure}
use Rattle.ncp_play_stream.specs.declared.source.Failed.{Failed}
use Rattle.ncp_play_stream.specs.Streams.{RemainingInput, Moves}
use Rattle.ncp_play_script.specs.declared.line_buffer.TheConstants.{MAX_KEPT}
use Rattle.ncp_play_script.specs.Lines.{is_lf}
use Rattle.ncp_play_script.specs.Scripts.{lines_of}
use Rattle.ncp_play_script.proofs.Cuts.{is_found, is_not_found}
use Rattle.ncp_play_script.proofs.Kept.{same_pieces}
use Rattle.ncp_play_script.proofs.ScriptLines.{line_last, piece_ends_line, no_lf_joined}
use Rattle.ncp_play_reader.specs.Reading.{IsFirstLine, EndsNone, ReadsLine}

-- a line is partly read: its bytes so far have no LF, its prefix is kept, and the other bytes are still
-- to be read
abbrev pub Underway : List ℕ → List ℕ → List ℕ → Option (List ℕ) → Type 0
Underway bytes line window left =
    (text : List ℕ) × (position is_lf text ≡ None) × (line ≡ take MAX_KEPT text) × (rest : List ℕ) × (bytes ≡ text ++ rest) × RemainingInput window left rest

pub begins : (bytes window : List ℕ) (left : Option (List ℕ)) → RemainingInput window left bytes → Underway bytes [] window left
begins bytes window left ahead = ([], refl, refl, bytes, refl, ahead)

-- the index of an LF is inside the piece
pub place_inside : (piece : List ℕ) (place : ℕ) → position is_lf piece ≡ Some place → place + 1 ≤ length piece
place_inside piece place found =
    let at = is_found (nat_lt (position_or_len is_lf piece) (length piece)) (position_or_len is_lf piece) place (sym found) in
    let inside : position_or_len is_lf piece < length piece = grind (arith, nat_tests, at.0) in
    omega (arith, inside, at.1)

-- a piece without an LF is all before the first
all_before : (piece : List ℕ) → position is_lf piece ≡ None → before_first is_lf piece ≡ piece
all_before piece none =
    let out = is_not_found (nat_lt (position_or_len is_lf piece) (length piece)) (position_or_len is_lf piece) (sym none) in
    take_all (position_or_len is_lf piece) piece (grind (arith, nat_tests, out))

pub goes_on : (bytes line window window' : List ℕ) (left : Option (List ℕ)) (count : ℕ) → Underway bytes line window left → position is_lf window ≡ None → count ≡ length window → window' ≡ drop count window → Underway bytes (take MAX_KEPT (line ++ before_first is_lf window)) window' left
goes_on bytes line window window' left count under none all skipped =
    let text = under.0 in
    let kept : take MAX_KEPT (line ++ before_first is_lf window) ≡ take MAX_KEPT (text ++ window) =
    ap (λ l. take MAX_KEPT (l ++ before_first is_lf window)) under.2 ∙ ap (λ w. take MAX_KEPT (take MAX_KEPT text ++ w)) (all_before window none) ∙ same_pieces text window in
    let ahead = under.5 in
    let rest = ahead.0 in
    let empty : window' ≡ [] = skipped ∙ grind (arith, common_steps) in
    (text ++ window, no_lf_joined text window under.1 none, kept, rest, under.4 ∙ ap (λ r. text ++ r) (sym ahead.2) ∙ sym (append_assoc text window rest), (rest, ahead.1, ap (λ w. w ++ rest) empty))

pub ends_at : (bytes line window window' : List ℕ) (left : Option (List ℕ)) (place used : ℕ) → Underway bytes line window left → position is_lf window ≡ Some place → used ≡ place + 1 → window' ≡ drop used window → IsFirstLine bytes true (take MAX_KEPT (line ++ before_first is_lf window)) window' left
ends_at bytes line window window' left place used under found at skipped =
    let text = under.0 in
    let ahead = under.5 in
    let rest = ahead.0 in
    let before = before_first is_lf window in
    let kept : take MAX_KEPT (line ++ before) ≡ take MAX_KEPT (text ++ before) = ap (λ l. take MAX_KEPT (l ++ before)) under.2 ∙ same_pieces text before in
    let whole : bytes ≡ text ++ (window ++ rest) = under.4 ∙ ap (λ r. text ++ r) (sym ahead.2) in
    (text ++ before, drop (place + 1) window ++ rest, ap lines_of whole ∙ piece_ends_line text window rest place under.1 found, kept, (rest, ahead.1, ap (λ w. w ++ rest) (skipped ∙ ap (λ n. drop n window) at)))

-- nothing is left to read
pub is_all : (bytes line window : List ℕ) (left : Option (List ℕ)) → Underway bytes line window left → length window < 1 → IsAtEnd left → (text : List ℕ) × (position is_lf text ≡ None) × (line ≡ take MAX_KEPT text) × (bytes ≡ text) × RemainingInput window left []
is_all bytes line [] None under short end = let e : ⊥ = cc (under.5.1) in absurd e
is_all bytes line [] (Some left) under short end =
    let rest = under.5.0 in
    let gone : rest ≡ [] = let same : left ≡ rest = cc (under.5.1) in sym same ∙ end in
    let none : under.3 ≡ [] = sym under.5.2 ∙ gone in
    (under.0, under.1, under.2, under.4 ∙ ap (λ r. under.0 ++ r) none ∙ append-nil under.0, ([], ap Some end, refl))
is_all bytes line (byte ∷ window) left under short end = absurd (omega (arith, short))

-- no byte of a line was read if none is kept
kept_none : (count : ℕ) (text : List ℕ) → 0 < count → take count text ≡ [] → text ≡ []
kept_none count [] some none = refl
kept_none count (byte ∷ text) some none = let len = length-take count (byte ∷ text) in let zero : length (take count (byte ∷ text)) ≡ 0 = ap length none in absurd (omega (arith, len, zero))

pub none_left : (bytes line window : List ℕ) (left : Option (List ℕ)) → Underway bytes line window left → length window < 1 → IsAtEnd left → line ≡ [] → bytes ≡ []
none_left bytes line window left under short end none =
    let all = is_all bytes line window left under short end in
    all.3 ∙ kept_none MAX_KEPT all.0 (omega arith) (sym all.2 ∙ none)

last_line : (text line window : List ℕ) (left : Option (List ℕ)) → position is_lf text ≡ None → line ≡ take MAX_KEPT text → (line ≡ [] → ⊥) → RemainingInput window left [] → IsFirstLine text false line window left
last_line [] line window left none kept some ahead = absurd (some kept)
last_line (byte ∷ text) line window left none kept some ahead = (byte ∷ text, [], line_last byte text none, kept, ahead)

pub last_left : (bytes line window : List ℕ) (left : Option (List ℕ)) → Underway bytes line window left → length window < 1 → IsAtEnd left → (line ≡ [] → ⊥) → IsFirstLine bytes false line window left
last_left bytes line window left under short end some =
    let all = is_all bytes line window left under short end in
    subst (λ (b : List ℕ). IsFirstLine b false line window left) (sym all.3) (last_line all.0 line window left all.1 all.2 some all.4)

-- a read failed
pub fails : (bytes line window : List ℕ) (left : Option (List ℕ)) → Underway bytes line window left → length window < 1 → EndsNone bytes left
fails bytes line [] left under short = (under.0, under.3, under.4, under.5.1 ∙ ap Some under.5.2, under.1)
fails bytes line (byte ∷ window) left under short = absurd (omega (arith, short))

-- ---- in terms of the code

pub moved : (bytes line window window' : List ℕ) (left left' : Option (List ℕ)) → Moves window left window' left' → Underway bytes line window left → Underway bytes line window' left'
moved bytes line window window' left left' moves under = (under.0, under.1, under.2, under.3, under.4, moves under.3 under.5)

pub goes_with : (bytes line line' window piece window' : List ℕ) (left : Option (List ℕ)) (count : ℕ) → Underway bytes line window left → piece ≡ window → line' ≡ take MAX_KEPT (line ++ before_first is_lf piece) → position is_lf piece ≡ None → count ≡ length window → window' ≡ drop count window → Underway bytes line' window' left
goes_with bytes line line' window piece window' left count under e kept none all skipped =
    let under' : Underway bytes line piece left = subst (λ (w : List ℕ). Underway bytes line w left) (sym e) under in
    subst (λ (l : List ℕ). Underway bytes l window' left) (sym kept)
    (goes_on bytes line piece window' left count under' none (all ∙ ap length (sym e)) (skipped ∙ ap (λ w. drop count w) (sym e)))

pub ends_with : (bytes line line' window piece window' : List ℕ) (left : Option (List ℕ)) (used : ℕ) → Underway bytes line window left → piece ≡ window → line' ≡ take MAX_KEPT (line ++ before_first is_lf piece) → (place : ℕ) × (position is_lf piece ≡ Some place) × (used ≡ place + 1) → window' ≡ drop used window → IsFirstLine bytes true line' window' left
ends_with bytes line line' window piece window' left used under e kept u skipped =
    let under' : Underway bytes line piece left = subst (λ (w : List ℕ). Underway bytes line w left) (sym e) under in
    subst (λ (l : List ℕ). IsFirstLine bytes true l window' left) (sym kept)
    (ends_at bytes line piece window' left u.0 used under' u.1 u.2 (skipped ∙ ap (λ w. drop used w) (sym e)))

pub failed_line : (bytes line window : List ℕ) (left : Option (List ℕ)) (r : Result (Option Bool) Failed) → IsErr r → EndsNone bytes left → ReadsLine bytes r line window left
failed_line bytes line window left (Ok found) e ends = let f : ⊥ = cc in absurd f
failed_line bytes line window left (Err failed) e ends = ends

is_zero : (n : ℕ) → true ≡ (n == 0) → n ≡ 0
is_zero n e = grind (arith, nat_tests)

pub no_text : (text line : List ℕ) → text ≡ line → true ≡ (length text == 0) → line ≡ []
no_text [] line e empty = sym e
no_text (byte ∷ text) line e empty = let zero = is_zero (length (byte ∷ text)) empty in absurd (omega (arith, zero))

pub some_text : (text line : List ℕ) → text ≡ line → false ≡ (length text == 0) → line ≡ [] → ⊥
some_text [] line e empty none = cc
some_text (byte ∷ text) line e empty none = cc

-- ---- the remaining work

-- less, if the line ends in the buffer
pub effort_ends : (reads all used : ℕ) (window piece left : List ℕ) → piece ≡ window → (place : ℕ) × (position is_lf piece ≡ Some place) × (used ≡ place + 1) → left ≡ drop used window → read_measure reads window ≤ all → read_measure reads left < all
effort_ends reads all used window piece left same u skipped h =
    let inside = place_inside piece u.0 u.1 in
    omega (arith, inside, u.2, ap length same, ap length skipped, length-drop used window)

-- and if it goes on after the buffer
pub effort_goes : (reads all : ℕ) (window left : List ℕ) (count : ℕ) → 1 ≤ length window → count ≡ length window → left ≡ drop count window → read_measure reads window ≤ all → read_measure reads left < all
effort_goes reads all window left count some e skipped h = omega (arith, ap length skipped, length-drop count window)
