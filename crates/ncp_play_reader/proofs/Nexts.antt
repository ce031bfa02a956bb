-- The next line that is not skipped, for bytes that arrive over time.
use Rattle.std.proofs.Common.{◌≡◌, ℕ, Bool, true, false, List, [], ◌∷◌, ◌++◌, Option, Some, None, Result, Ok, Err, position, if◌then◌else◌, refl, sym, ap, ◌∙◌, subst, append_assoc, arith}
use Rattle.std.specs.Result.{IsErr}
use Rattle.std.proofs.lemmas.Bool.Decides.{nat_tests}
use Rattle.ncp_play_stream.specs.declared.source.Failed.{Failed}
use Rattle.ncp_play_stream.specs.Streams.{RemainingInput}
use Rattle.ncp_play_script.specs.declared.line_buffer.LineKind.{LineKind}
use Rattle.ncp_play_script.specs.declared.line_buffer.LineKind.TheVariants as kinds
use Rattle.ncp_play_script.specs.Lines.{is_lf, text_of_line, line_kind}
use Rattle.ncp_play_script.specs.Scripts.{Line, onto_line, lines_of, said, number_following}
use Rattle.ncp_play_reader.specs.declared.lines.Lines.{Lines}
use Rattle.ncp_play_reader.specs.declared.lines.NextLine.{NextLine}
use Rattle.ncp_play_reader.specs.declared.lines.NextLine.TheVariants.{Over, TooLong, Played}
use Rattle.ncp_play_script.proofs.Kept.{same_kind, same_text}
use Rattle.ncp_play_script.proofs.ScriptLines.{line_last}
use Rattle.ncp_play_reader.specs.Reading.{IsFirstLine, EndsNone, ReadsLine}
use Rattle.ncp_play_reader.specs.NextLines.{Numbered, unless_skipped, next_from, ended_lines, CameBefore, ReadsNextLine}

-- ---- the first line of bytes

-- the byte that ends a line
abbrev LF : ℕ
LF = 10

-- the first line precedes the others; if an LF ends it, it precedes any bytes
abbrev pub Front : List ℕ → Line → List Line → Type 0
Front bytes line lines =
    (lines ≡ lines_of line.behind)
    × (line.ended ≡ false → line.behind ≡ [])
    × (line.ended ≡ true → bytes ≡ line.bytes ++ LF ∷ line.behind)
    × (line.ended ≡ true → (given : List ℕ) → lines_of (line.bytes ++ LF ∷ given) ≡ record line { behind = given } ∷ lines_of given)

onto_other : (lf : Bool) (byte : ℕ) (behind : List ℕ) (lines : List Line) → lf ≡ false → (if lf then record { bytes = []; ended = true; behind = behind } ∷ lines else onto_line byte lines) ≡ onto_line byte lines
onto_other true byte behind lines e = absurd (cc)
onto_other false byte behind lines e = refl

-- the first line is this one
front_is : (bytes : List ℕ) (line other : Line) (lines others : List Line) → line ∷ lines ≡ other ∷ others → Front bytes line lines → Front bytes other others
front_is bytes line other lines others e front =
    let first : line ≡ other = cc in let rest : lines ≡ others = cc in
    subst (λ (l : Line). Front bytes l others) first (subst (λ (ls : List Line). Front bytes line ls) rest front)

front_onto : (byte : ℕ) (bytes : List ℕ) (lines : List Line) → is_lf byte ≡ false → lines_of bytes ≡ lines → ((line : Line) (others : List Line) → lines ≡ line ∷ others → Front bytes line others)
    → (line : Line) (others : List Line) → onto_line byte lines ≡ line ∷ others → Front (byte ∷ bytes) line others
front_onto byte bytes [] other here before line others e =
    let none : bytes ≡ bytes = refl in
    front_is (byte ∷ bytes) (record { bytes = byte ∷ []; ended = false; behind = [] }) line [] others e (refl, λ _. refl, λ f. absurd (cc), λ f. absurd (cc))
front_onto byte bytes (l ∷ ls) other here before line others e =
    let front = before l ls refl in
    front_is (byte ∷ bytes) (record l { bytes = byte ∷ l.bytes }) line ls others e (
      front.0,
      front.1,
      λ ended. ap (λ behind. byte ∷ behind) (front.2 ended),
      λ ended given. onto_other (is_lf byte) byte (l.bytes ++ LF ∷ given) (lines_of (l.bytes ++ LF ∷ given)) other ∙ ap (λ lines. onto_line byte lines) (front.3 ended given),
    )

front_byte : (lf : Bool) (byte : ℕ) (bytes : List ℕ) → is_lf byte ≡ lf → ((line : Line) (others : List Line) → lines_of bytes ≡ line ∷ others → Front bytes line others)
    → (line : Line) (others : List Line) → (if lf then record { bytes = []; ended = true; behind = bytes } ∷ lines_of bytes else onto_line byte (lines_of bytes)) ≡ line ∷ others → Front (byte ∷ bytes) line others
front_byte true byte bytes lf before line others e =
    let is : byte ≡ LF = grind (arith, nat_tests, lf) in
    front_is (byte ∷ bytes) (record { bytes = []; ended = true; behind = bytes }) line (lines_of bytes) others e (refl, λ f. absurd (cc), λ _. ap (λ b. b ∷ bytes) is, λ _ given. refl)
front_byte false byte bytes lf before line others e = front_onto byte bytes (lines_of bytes) lf refl before line others e

pub front_of : (bytes : List ℕ) (line : Line) (lines : List Line) → lines_of bytes ≡ line ∷ lines → Front bytes line lines
front_of [] line lines e = absurd (cc)
front_of (byte ∷ bytes) line lines e = front_byte (is_lf byte) byte bytes refl (λ l ls f. front_of bytes l ls f) line lines e

-- ---- lines that are skipped

skipped_from : (first : ℕ) (line : Line) (lines : List Line) → line_kind (said line) ≡ kinds.Skipped → next_from first (line ∷ lines) ≡ next_from (number_following first) lines
skipped_from first line lines e = ap (λ kind. unless_skipped kind (first, line, lines) (next_from (number_following first) lines)) e

ended_first : (line : Line) (lines : List Line) → line.ended ≡ true → ended_lines (line ∷ lines) ≡ line ∷ ended_lines lines
ended_first line lines e = ap (λ ended. if ended then line ∷ ended_lines lines else []) e

not_ended_first : (line : Line) (lines : List Line) → line.ended ≡ false → ended_lines (line ∷ lines) ≡ []
not_ended_first line lines e = ap (λ ended. if ended then line ∷ ended_lines lines else []) e

-- the complete lines after a complete one
came_whole : (bytes : List ℕ) (line : Line) (lines : List Line) → Front bytes line lines → line.ended ≡ true → (given : List ℕ) → ended_lines (lines_of (line.bytes ++ LF ∷ given)) ≡ record line { behind = given } ∷ ended_lines (lines_of given)
came_whole bytes line lines front ended given = ap ended_lines (front.3 ended given) ∙ ended_first (record line { behind = given }) (lines_of given) ended

came_skipped : (first : ℕ) (bytes : List ℕ) (line : Line) (lines : List Line) (left : Option (List ℕ)) → lines_of bytes ≡ line ∷ lines → line.ended ≡ true → line_kind (said line) ≡ kinds.Skipped
    → (given : List ℕ) × CameBefore line.behind left given × (next_from (number_following first) (ended_lines (lines_of given)) ≡ None)
    → (given : List ℕ) × CameBefore bytes left given × (next_from first (ended_lines (lines_of given)) ≡ None)
came_skipped first bytes line lines left e ended kind came =
    let front = front_of bytes line lines e in
    let given = came.0 in let before = came.1 in (
      line.bytes ++ LF ∷ given,
      (before.0, front.2 ended ∙ ap (λ behind. line.bytes ++ LF ∷ behind) before.1 ∙ sym (append_assoc line.bytes (LF ∷ given) before.0), before.2),
      ap (λ lines. next_from first lines) (came_whole bytes line lines front ended given) ∙ skipped_from first (record line { behind = given }) (ended_lines (lines_of given)) kind ∙ came.2,
    )

-- a line is skipped: the result for the lines after it is the result for all
pub reads_skipped : (first : ℕ) (bytes : List ℕ) (line : Line) → lines_of bytes ≡ line ∷ lines_of line.behind → line.ended ≡ true → line_kind (said line) ≡ kinds.Skipped
    → (r : Result NextLine Failed) (now : Lines) (left : Option (List ℕ)) → ReadsNextLine (number_following first) line.behind r now left → ReadsNextLine first bytes r now left
reads_skipped first bytes line e ended kind (Ok Over) now left h = ap (λ lines. next_from first lines) e ∙ skipped_from first line (lines_of line.behind) kind ∙ h
reads_skipped first bytes line e ended kind (Ok (TooLong number)) now left h =
    let next = h.1 in (h.0, (ap (λ lines. next_from first lines) e ∙ skipped_from first line (lines_of line.behind) kind ∙ next.0, next.1, next.2, next.3))
reads_skipped first bytes line e ended kind (Ok (Played number lf)) now left h =
    let next = h.1 in (h.0, (ap (λ lines. next_from first lines) e ∙ skipped_from first line (lines_of line.behind) kind ∙ next.0, next.1, next.2, next.3), h.2, h.3)
reads_skipped first bytes line e ended kind (Err failed) now left h = came_skipped first bytes line (lines_of line.behind) left e ended kind h

-- ---- the line that is not skipped, for the bytes that arrived

abbrev Came : ℕ → List ℕ → ℕ → Line → Type 0
Came first bytes number line =
    (front : List ℕ) × (bytes ≡ front ++ line.behind) × ((given : List ℕ) → next_from first (ended_lines (lines_of (front ++ given))) ≡ Some (number, record line { behind = given }, ended_lines (lines_of given)))

some_is : {it other : Numbered} → Some it ≡ Some other → it ≡ other
some_is e = cc

came_here : (first : ℕ) (bytes : List ℕ) (l : Line) (ls : List Line) → lines_of bytes ≡ l ∷ ls → ((it : Numbered) (others : Option Numbered) → unless_skipped (line_kind (said l)) it others ≡ Some it)
    → (number : ℕ) (line : Line) (behind : List Line) → next_from first (l ∷ ls) ≡ Some (number, line, behind) → line.ended ≡ true → Came first bytes number line
came_here first bytes l ls e here number line behind found ended =
    let it : Some (first, l, ls) ≡ Some (number, line, behind) = sym (here (first, l, ls) (next_from (number_following first) ls)) ∙ found in
    let tuple : (first, l, ls) ≡ (number, line, behind) = some_is it in
    let same_number : first ≡ number = ap (λ (n : Numbered). n.0) tuple in
    let same_line : l ≡ line = ap (λ (n : Numbered). n.1) tuple in
    let ended' : l.ended ≡ true = ap (λ (x : Line). x.ended) same_line ∙ ended in
    let front = front_of bytes l ls e in
    let came : Came first bytes first l = (
      l.bytes ++ LF ∷ [],
      front.2 ended' ∙ sym (append_assoc l.bytes (LF ∷ []) l.behind),
      λ given.
          ap (λ bytes. next_from first (ended_lines (lines_of bytes))) (append_assoc l.bytes (LF ∷ []) given) ∙ ap (λ lines. next_from first lines) (came_whole bytes l ls front ended' given)
          ∙ here (first, record l { behind = given }, ended_lines (lines_of given)) (next_from (number_following first) (ended_lines (lines_of given))),
    ) in
    subst (λ (n : ℕ). Came first bytes n line) same_number (subst (λ (x : Line). Came first bytes first x) same_line came)

no_line : (first number : ℕ) (line : Line) (behind : List Line) → next_from (number_following first) [] ≡ Some (number, line, behind) → ⊥
no_line first number line behind e = cc

came_later : (ended : Bool) (first : ℕ) (bytes : List ℕ) (l : Line) (ls : List Line) → l.ended ≡ ended → lines_of bytes ≡ l ∷ ls → line_kind (said l) ≡ kinds.Skipped
    → (number : ℕ) (line : Line) (behind : List Line) → next_from (number_following first) ls ≡ Some (number, line, behind)
    → (lines_of l.behind ≡ ls → Came (number_following first) l.behind number line) → Came first bytes number line
came_later true first bytes l ls ended e kind number line behind found later =
    let front = front_of bytes l ls e in
    let came = later (sym front.0) in (
      l.bytes ++ LF ∷ came.0,
      front.2 ended ∙ ap (λ behind. l.bytes ++ LF ∷ behind) came.1 ∙ sym (append_assoc l.bytes (LF ∷ came.0) line.behind),
      λ given.
          ap (λ bytes. next_from first (ended_lines (lines_of bytes))) (append_assoc l.bytes (LF ∷ came.0) given) ∙ ap (λ lines. next_from first lines) (came_whole bytes l ls front ended (came.0 ++ given))
          ∙ skipped_from first (record l { behind = came.0 ++ given }) (ended_lines (lines_of (came.0 ++ given))) kind ∙ came.2 given,
    )
came_later false first bytes l ls ended e kind number line behind found later =
    let front = front_of bytes l ls e in
    let none : ls ≡ [] = front.0 ∙ ap lines_of (front.1 ended) in
    absurd (no_line first number line behind (ap (λ lines. next_from (number_following first) lines) (sym none) ∙ found))

came_at : (kind : LineKind) (first : ℕ) (bytes : List ℕ) (l : Line) (ls : List Line) → line_kind (said l) ≡ kind → lines_of bytes ≡ l ∷ ls
    → (number : ℕ) (line : Line) (behind : List Line) → next_from first (l ∷ ls) ≡ Some (number, line, behind) → line.ended ≡ true
    → (next_from (number_following first) ls ≡ Some (number, line, behind) → lines_of l.behind ≡ ls → Came (number_following first) l.behind number line) → Came first bytes number line
came_at kinds.Skipped first bytes l ls kind e number line behind found ended later =
    let found' = sym (skipped_from first l ls kind) ∙ found in came_later l.ended first bytes l ls refl e kind number line behind found' (later found')
came_at kinds.TooLong first bytes l ls kind e number line behind found ended later = came_here first bytes l ls e (λ it others. ap (λ k. unless_skipped k it others) kind) number line behind found ended
came_at kinds.Played first bytes l ls kind e number line behind found ended later = came_here first bytes l ls e (λ it others. ap (λ k. unless_skipped k it others) kind) number line behind found ended

came_from : (lines : List Line) (first : ℕ) (bytes : List ℕ) → lines_of bytes ≡ lines → (number : ℕ) (line : Line) (behind : List Line) → next_from first lines ≡ Some (number, line, behind) → line.ended ≡ true → Came first bytes number line
came_from [] first bytes e number line behind found ended = absurd (cc)
came_from (l ∷ ls) first bytes e number line behind found ended =
    came_at (line_kind (said l)) first bytes l ls refl e number line behind found ended (λ found' e'. came_from ls (number_following first) l.behind e' number line behind found' ended)

last_here : (first : ℕ) (bytes : List ℕ) (l : Line) (ls : List Line) → lines_of bytes ≡ l ∷ ls → ((it : Numbered) (others : Option Numbered) → unless_skipped (line_kind (said l)) it others ≡ Some it)
    → (number : ℕ) (line : Line) (behind : List Line) → next_from first (l ∷ ls) ≡ Some (number, line, behind) → line.ended ≡ false → line.behind ≡ []
last_here first bytes l ls e here number line behind found ended =
    let it : Some (first, l, ls) ≡ Some (number, line, behind) = sym (here (first, l, ls) (next_from (number_following first) ls)) ∙ found in
    let same : l ≡ line = ap (λ (n : Numbered). n.1) (some_is it) in
    let front = front_of bytes l ls e in
    ap (λ (x : Line). x.behind) (sym same) ∙ front.1 (ap (λ (x : Line). x.ended) same ∙ ended)

last_at : (kind : LineKind) (first : ℕ) (bytes : List ℕ) (l : Line) (ls : List Line) → line_kind (said l) ≡ kind → lines_of bytes ≡ l ∷ ls → (number : ℕ) (line : Line) (behind : List Line)
    → next_from first (l ∷ ls) ≡ Some (number, line, behind) → line.ended ≡ false → (next_from (number_following first) ls ≡ Some (number, line, behind) → line.behind ≡ []) → line.behind ≡ []
last_at kinds.Skipped first bytes l ls kind e number line behind found ended later = later (sym (skipped_from first l ls kind) ∙ found)
last_at kinds.TooLong first bytes l ls kind e number line behind found ended later = last_here first bytes l ls e (λ it others. ap (λ k. unless_skipped k it others) kind) number line behind found ended
last_at kinds.Played first bytes l ls kind e number line behind found ended later = last_here first bytes l ls e (λ it others. ap (λ k. unless_skipped k it others) kind) number line behind found ended

last_from : (lines : List Line) (first : ℕ) (bytes : List ℕ) → lines_of bytes ≡ lines → (number : ℕ) (line : Line) (behind : List Line) → next_from first lines ≡ Some (number, line, behind) → line.ended ≡ false → line.behind ≡ []
last_from [] first bytes e number line behind found ended = absurd (cc)
last_from (l ∷ ls) first bytes e number line behind found ended =
    let front = front_of bytes l ls e in
    last_at (line_kind (said l)) first bytes l ls refl e number line behind found ended (λ found'. last_from ls (number_following first) l.behind (sym front.0) number line behind found' ended)

-- a next line without an LF is the last
pub last_after : (first : ℕ) (bytes : List ℕ) (number : ℕ) (line : Line) (behind : List Line) → next_from first (lines_of bytes) ≡ Some (number, line, behind) → line.ended ≡ false → line.behind ≡ []
last_after first bytes number line behind found ended = last_from (lines_of bytes) first bytes refl number line behind found ended

-- a read failed after the next line: the complete lines are that line and those that arrived after it
pub came_after : (first : ℕ) (bytes : List ℕ) (number : ℕ) (line : Line) (behind : List Line) (given : List ℕ) (left : Option (List ℕ)) → next_from first (lines_of bytes) ≡ Some (number, line, behind) → line.ended ≡ true → CameBefore line.behind left given
    → (all : List ℕ) × CameBefore bytes left all × (next_from first (ended_lines (lines_of all)) ≡ Some (number, record line { behind = given }, ended_lines (lines_of given)))
came_after first bytes number line behind given left found ended before =
    let came = came_from (lines_of bytes) first bytes refl number line behind found ended in
    (came.0 ++ given, (before.0, came.1 ∙ ap (λ b. came.0 ++ b) before.1 ∙ sym (append_assoc came.0 given before.0), before.2), came.2 given)

-- ---- lines that are read

-- the first line is skipped, and is the last
pub skipped_last : (first : ℕ) (bytes : List ℕ) (line : Line) → lines_of bytes ≡ line ∷ lines_of line.behind → line.ended ≡ false → line_kind (said line) ≡ kinds.Skipped → next_from first (lines_of bytes) ≡ None
skipped_last first bytes line e ended kind =
    let front = front_of bytes line (lines_of line.behind) e in
    ap (λ lines. next_from first lines) e ∙ skipped_from first line (lines_of line.behind) kind ∙ ap (λ behind. next_from (number_following first) (lines_of behind)) (front.1 ended)

-- the line that was read, as one of the lines of these bytes
abbrev pub Read : List ℕ → Bool → List ℕ → List ℕ → Option (List ℕ) → Type 0
Read bytes ended kept window left =
    (line : Line) × (lines_of bytes ≡ line ∷ lines_of line.behind) × (line.ended ≡ ended) × (line_kind (text_of_line ended kept) ≡ line_kind (said line))
    × (line_kind (said line) ≡ kinds.Played → text_of_line ended kept ≡ said line) × RemainingInput window left line.behind

pub read_first : (bytes : List ℕ) (ended : Bool) (kept window : List ℕ) (left : Option (List ℕ)) → IsFirstLine bytes ended kept window left → Read bytes ended kept window left
read_first bytes ended kept window left first =
    let text = first.0 in (
      record { bytes = text; ended = ended; behind = first.1 },
      first.2,
      refl,
      ap (λ k. line_kind (text_of_line ended k)) first.3 ∙ same_kind ended text,
      λ played. ap (λ k. text_of_line ended k) first.3 ∙ same_text ended text played,
      first.4,
    )

-- a read failed: there is no complete line
none_whole : (given : List ℕ) → position is_lf given ≡ None → ended_lines (lines_of given) ≡ []
none_whole [] none = refl
none_whole (byte ∷ text) none = ap ended_lines (line_last byte text none)

pub next_failed : (first : ℕ) (bytes : List ℕ) (r : Result NextLine Failed) (now : Lines) (left : Option (List ℕ)) → IsErr r → EndsNone bytes left → ReadsNextLine first bytes r now left
next_failed first bytes (Ok next) now left e ends = let f : ⊥ = cc in absurd f
next_failed first bytes (Err failed) now left e ends = (ends.0, (ends.1, ends.2, ends.3), ap (λ lines. next_from first lines) (none_whole ends.0 ends.4))

-- the line that was read is not skipped
pub next_is : (first : ℕ) (bytes : List ℕ) (line : Line) → lines_of bytes ≡ line ∷ lines_of line.behind → (kind : LineKind) → line_kind (said line) ≡ kind → ((it : Numbered) (others : Option Numbered) → unless_skipped kind it others ≡ Some it)
    → next_from first (lines_of bytes) ≡ Some (first, line, lines_of line.behind)
next_is first bytes line e kind is here =
    ap (λ lines. next_from first lines) e ∙ ap (λ k. unless_skipped k (first, line, lines_of line.behind) (next_from (number_following first) (lines_of line.behind))) is
    ∙ here (first, line, lines_of line.behind) (next_from (number_following first) (lines_of line.behind))

-- ---- in terms of the code

pub read_some : (bytes : List ℕ) (found : Option Bool) (ended : Bool) (kept window : List ℕ) (left : Option (List ℕ)) → found ≡ Some ended → ReadsLine bytes (Ok found) kept window left → Read bytes ended kept window left
read_some bytes None ended kept window left e read = absurd (cc)
read_some bytes (Some lf) ended kept window left e read =
    let same : lf ≡ ended = cc in
    read_first bytes ended kept window left (subst (λ (b : Bool). IsFirstLine bytes b kept window left) same read)

pub none_to_read : (first : ℕ) (bytes kept window : List ℕ) (found : Option Bool) (left : Option (List ℕ)) → ((ended : Bool) → found ≡ Some ended → ⊥) → ReadsLine bytes (Ok found) kept window left → next_from first (lines_of bytes) ≡ None
none_to_read first bytes kept window None left other read = ap (λ b. next_from first (lines_of b)) read
none_to_read first bytes kept window (Some ended) left other read = absurd (other ended refl)

pub goes_with_lf : (found : Option Bool) (ended : Bool) → found ≡ Some ended → ended ≡ true → found ≡ Some true
goes_with_lf found ended e lf = e ∙ ap Some lf
