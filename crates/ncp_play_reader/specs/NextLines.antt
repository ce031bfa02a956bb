-- The next line of a script that is not skipped.
use Rattle.std.specs.Prelude.{◌≡◌, ℕ, Bool, false, List, [], ◌∷◌, ◌++◌, Option, Some, None, Result, Ok, Err, if◌then◌else◌}
use Rattle.ncp_play_stream.specs.declared.source.Failed.{Failed}
use Rattle.ncp_play_stream.specs.Streams.{RemainingInput}
use Rattle.ncp_play_script.specs.declared.line_buffer.LineKind.{LineKind}
use Rattle.ncp_play_script.specs.declared.line_buffer.LineKind.TheVariants as kinds
use Rattle.ncp_play_script.specs.Lines.{text_of_line, line_kind}
use Rattle.ncp_play_script.specs.Scripts.{Line, lines_of, said, number_following}
use Rattle.ncp_play_reader.specs.declared.lines.Lines.{Lines}
use Rattle.ncp_play_reader.specs.declared.lines.NextLine.{NextLine}
use Rattle.ncp_play_reader.specs.declared.lines.NextLine.TheVariants.{Over, TooLong, Played}

-- a line with its number among all lines, and the lines after it
abbrev pub Numbered : Type 0
Numbered = ℕ × Line × List Line

abbrev pub unless_skipped : LineKind → Numbered → Option Numbered → Option Numbered
unless_skipped kinds.Skipped it others = others
unless_skipped kinds.TooLong it others = Some it
unless_skipped kinds.Played it others = Some it

-- the first of these lines that is not skipped; the first of all has this number
abbrev pub next_from : ℕ → List Line → Option Numbered
next_from number [] = None
next_from number (line ∷ lines) = unless_skipped (line_kind (said line)) (number, line, lines) (next_from (number_following number) lines)

-- the complete lines: all but a last one without an LF
abbrev pub ended_lines : List Line → List Line
ended_lines [] = []
ended_lines (line ∷ lines) = if line.ended then line ∷ ended_lines lines else []

-- the bytes that were read before a failed read
abbrev pub CameBefore : List ℕ → Option (List ℕ) → List ℕ → Type 0
CameBefore bytes left given = (rest : List ℕ) × (bytes ≡ given ++ rest) × (left ≡ Some rest)

-- the next line is of this kind and has this number among all lines; the bytes after it are still to be
-- read, and `next` is the number of the line after it
abbrev pub IsNextLine : ℕ → List ℕ → LineKind → ℕ → Line → ℕ → List ℕ → Option (List ℕ) → Type 0
IsNextLine first bytes kind number line next window left =
    (next_from first (lines_of bytes) ≡ Some (number, line, lines_of line.behind)) × (line_kind (said line) ≡ kind) × (next ≡ number_following number) × RemainingInput window left line.behind

-- the result of reading the next of these lines, the first of which has the number `first`: all lines are
-- skipped; or the next is too long, or is to be played and was read; or a read failed, and the complete
-- lines are all skipped
abbrev pub ReadsNextLine : ℕ → List ℕ → Result NextLine Failed → Lines → Option (List ℕ) → Type 0
ReadsNextLine first bytes (Ok Over) now left = next_from first (lines_of bytes) ≡ None
ReadsNextLine first bytes (Ok (TooLong number)) now left = (line : Line) × IsNextLine first bytes kinds.TooLong number line now.number now.window left
ReadsNextLine first bytes (Ok (Played number ended)) now left =
    (line : Line) × IsNextLine first bytes kinds.Played number line now.number now.window left × (line.ended ≡ ended) × (text_of_line ended now.line ≡ said line)
ReadsNextLine first bytes (Err failed) now left = (given : List ℕ) × CameBefore bytes left given × (next_from first (ended_lines (lines_of given)) ≡ None)

-- a line to be played that others may follow
abbrev pub goes_on : NextLine → Bool
goes_on Over = false
goes_on (TooLong number) = false
goes_on (Played number ended) = ended
