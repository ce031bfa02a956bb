-- The event of a script's next line, as it is read.
use Rattle.std.specs.Prelude.{◌≡◌, ℕ, Bool, true, false, List, ◌∷◌, Option, Some, None, Result, Ok, Err}
use Rattle.ncp_play_stream.specs.Streams.{RemainingInput}
use Rattle.ncp_play_script.specs.declared.line_buffer.LineKind.TheVariants.{Played, TooLong}
use Rattle.ncp_play_script.specs.Words.{words_of}
use Rattle.ncp_play_script.specs.Calls.{NamesGiveAfter}
use Rattle.ncp_play_script.specs.Scripts.{Line, lines_of, said, EventPlan, Over, Faulty, course_ends, course_from}
use Rattle.ncp_play_script.specs.Lines.{text_of_line}
use Rattle.ncp_play_script.specs.Scripts.{BadLine as Is_bad_line, LineTooLong as Is_too_long}
use Rattle.ncp_play_reader.specs.declared.lines.Lines.{Lines}
use Rattle.ncp_play_reader.specs.NextLines.{next_from, ended_lines, CameBefore, IsNextLine}
use Rattle.ncp_play_notes.specs.declared.fault.PlayFault.{PlayFault}
use Rattle.ncp_play_notes.specs.declared.fault.PlayFault.TheVariants.{BadLine, LineTooLong, BadHosts, Feed, ReadFailed, WriteFailed, OutOfMemory}
use Rattle.ncp_play_simulation.specs.Rules.{Rules, asks}

-- an event before those of a plan
abbrev pub with_event : {E : Type 0} → E → EventPlan E → EventPlan E
with_event event course = record course { events = event ∷ course.events }

-- whether others may follow: there is a line, and an LF ended it
abbrev pub may_go_on : {E : Type 0} → Option (E × Bool) → Bool
may_go_on None = false
may_go_on (Some (event, ended)) = ended

-- the next of these lines gives a text; the first line has the number `first`
abbrev pub GivesNextAfter : ℕ → List ℕ → Lines → Option (List ℕ) → Type 0
GivesNextAfter first bytes now left = (number : ℕ) × (line : Line) × IsNextLine first bytes Played number line now.number now.window left × NamesGiveAfter (words_of (said line))

module _ {F E N W : Type 0} (rules : Rules F E N W) (named : F) where
  -- the event of a line of this number and text; or the line gives a text that could not be allocated
  abbrev pub EventIn : ℕ → List ℕ → Result E PlayFault → Type 0
  EventIn number text (Ok event) = rules.reads named (words_of text) ≡ Some event
  EventIn number text (Err (BadLine line)) = (rules.reads named (words_of text) ≡ None) × (line ≡ number)
  EventIn number text (Err OutOfMemory) = NamesGiveAfter (words_of text)
  EventIn number text (Err (LineTooLong line)) = ⊥
  EventIn number text (Err ReadFailed) = ⊥
  EventIn number text (Err WriteFailed) = ⊥
  EventIn number text (Err BadHosts) = ⊥
  EventIn number text (Err (Feed fault)) = ⊥

  -- the events of lines, the first of which has the number `first`
  abbrev pub course_of : ℕ → List ℕ → EventPlan E
  course_of first bytes = course_from (asks rules named) first (lines_of bytes)

  -- the events of those lines that an LF ends
  abbrev pub course_cut : ℕ → List ℕ → EventPlan E
  course_cut first bytes = course_from (asks rules named) first (ended_lines (lines_of bytes))

  -- the next line's event is `event`, and `rest` follows it; likewise if the input was cut off after that
  -- line
  abbrev pub AsksOne : ℕ → List ℕ → E → Lines → Option (List ℕ) → Type 0
  AsksOne first bytes event now left =
      (rest : List ℕ) × (course_of first bytes ≡ with_event event (course_of now.number rest)) × RemainingInput now.window left rest
      × ((given : List ℕ) (left' : Option (List ℕ)) → CameBefore rest left' given
      → (all : List ℕ) × CameBefore bytes left' all × (course_cut first all ≡ with_event event (course_cut now.number given)))

  -- the result of reading the next of these lines, the first of which has the number `first`: no event
  -- remains; or the next line's event, which is the last if no LF ended its line; or the line's fault; or
  -- a read failed, and the complete lines have no event; or the text that the line gives could not be
  -- allocated
  abbrev pub AsksNext : ℕ → List ℕ → Result (Option (E × Bool)) PlayFault → Lines → Option (List ℕ) → Type 0
  AsksNext first bytes (Ok None) now left = course_of first bytes ≡ course_ends Over
  AsksNext first bytes (Ok (Some (event, true))) now left = AsksOne first bytes event now left
  AsksNext first bytes (Ok (Some (event, false))) now left = course_of first bytes ≡ with_event event (course_ends Over)
  AsksNext first bytes (Err (BadLine line)) now left = course_of first bytes ≡ course_ends (Faulty (Is_bad_line line))
  AsksNext first bytes (Err (LineTooLong line)) now left = course_of first bytes ≡ course_ends (Faulty (Is_too_long line))
  AsksNext first bytes (Err ReadFailed) now left = (given : List ℕ) × CameBefore bytes left given × (course_cut first given ≡ course_ends Over)
  AsksNext first bytes (Err OutOfMemory) now left = GivesNextAfter first bytes now left
  AsksNext first bytes (Err WriteFailed) now left = ⊥
  AsksNext first bytes (Err BadHosts) now left = ⊥
  AsksNext first bytes (Err (Feed fault)) now left = ⊥

-- ---- the first line

-- the result of finding the first line that is not skipped: `now` holds its words, and the rest is left;
-- or there is none, or it is too long; or a read failed, and all complete lines are skipped
abbrev pub FindsFirst : ℕ → List ℕ → Result Bool PlayFault → Lines → Option (List ℕ) → Type 0
FindsFirst first bytes (Ok ended) now left =
    (number : ℕ) × (line : Line) × IsNextLine first bytes Played number line now.number now.window left × (line.ended ≡ ended) × (text_of_line ended now.line ≡ said line)
FindsFirst first bytes (Err BadHosts) now left = next_from first (lines_of bytes) ≡ None
FindsFirst first bytes (Err (LineTooLong number)) now left = (line : Line) × IsNextLine first bytes TooLong number line now.number now.window left
FindsFirst first bytes (Err ReadFailed) now left = (given : List ℕ) × CameBefore bytes left given × (next_from first (ended_lines (lines_of given)) ≡ None)
FindsFirst first bytes (Err OutOfMemory) now left = ⊥
FindsFirst first bytes (Err WriteFailed) now left = ⊥
FindsFirst first bytes (Err (BadLine line)) now left = ⊥
FindsFirst first bytes (Err (Feed fault)) now left = ⊥
