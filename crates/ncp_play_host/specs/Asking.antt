-- The lines of a one-host script, read from a source in order.
use Rattle.std.specs.Prelude.{◌≡◌, ℕ, Bool, true, false, List, [], ◌∷◌, Option, Result, Ok, Err}
use Rattle.ncp_play_stream.specs.Streams.{RemainingInput}
use Rattle.ncp_play_script.specs.declared.host_lines.HostEvent.{HostEvent}
use Rattle.ncp_play_script.specs.FirstLines.{Named, first_of_host}
use Rattle.ncp_play_script.specs.Calls.{NamesGive}
use Rattle.ncp_play_script.specs.HostScripts.{asked_of}
use Rattle.ncp_play_script.specs.Scripts as scripts
use Rattle.ncp_play_script.specs.Words.{words_of}
use Rattle.ncp_play_script.specs.declared.line_buffer.LineKind.TheVariants as kinds
use Rattle.ncp_play_script.specs.Scripts.{Line, EventPlan, Script, lines_of, said, course_ends, played, Fed, Faulty, course_from, script_from}
use Rattle.ncp_play_reader.specs.declared.lines.Lines.{Lines}
use Rattle.ncp_play_reader.specs.NextLines.{ended_lines, CameBefore, IsNextLine}
use Rattle.ncp_play_notes.specs.declared.fault.PlayFault.{PlayFault}
use Rattle.ncp_play_notes.specs.declared.fault.PlayFault.TheVariants.{BadLine, LineTooLong, BadHosts, Feed, ReadFailed, WriteFailed, OutOfMemory}
use Rattle.ncp_play_host.specs.declared.asking.NextAsked.{NextAsked}
use Rattle.ncp_play_host.specs.declared.asking.NextAsked.TheVariants.{Over, FeedAfter, Does}

-- the events of these lines, the first of which has the number `number`, for a host with these peers
abbrev pub course_of : List ℕ → ℕ → List Line → EventPlan HostEvent
course_of peers number lines = course_from (asked_of peers) number lines

-- the script of these lines
abbrev pub script_of_lines : List Line → Script Named HostEvent
script_of_lines lines = script_from first_of_host (λ named. asked_of named.peers) 1 lines

-- an event before those of a plan
abbrev pub in_front : HostEvent → EventPlan HostEvent → EventPlan HostEvent
in_front event course = record course { events = event ∷ course.events }

-- the meaning of a line of these words, by the result: a feed; this event; a line that cannot be played;
-- or a text whose allocation failed
abbrev pub IsPlayedAs : List ℕ → ℕ → Line → List (List ℕ) → EventPlan HostEvent → Result NextAsked PlayFault → Type 0
IsPlayedAs peers number line words course (Ok Over) = ⊥
IsPlayedAs peers number line words course (Ok FeedAfter) = played number line (asked_of peers words) course ≡ course_ends (Fed line.behind)
IsPlayedAs peers number line words course (Ok (Does event ended)) = (played number line (asked_of peers words) course ≡ in_front event course) × (ended ≡ line.ended)
IsPlayedAs peers number line words course (Err (BadLine bad)) = played number line (asked_of peers words) course ≡ course_ends (Faulty (scripts.BadLine bad))
IsPlayedAs peers number line words course (Err OutOfMemory) = NamesGive words
IsPlayedAs peers number line words course (Err (LineTooLong long)) = ⊥
IsPlayedAs peers number line words course (Err BadHosts) = ⊥
IsPlayedAs peers number line words course (Err (Feed fault)) = ⊥
IsPlayedAs peers number line words course (Err ReadFailed) = ⊥
IsPlayedAs peers number line words course (Err WriteFailed) = ⊥

-- `behind` is the rest of `bytes` after a line. If a read fails in `behind`, the plan of all complete
-- lines is that of the complete lines in `behind`, extended by `front`
abbrev pub IsAfter : List ℕ → (List Line → EventPlan HostEvent) → (EventPlan HostEvent → EventPlan HostEvent) → ℕ → List ℕ → List ℕ → Type 0
IsAfter peers all front next bytes behind =
    (left : Option (List ℕ)) (given : List ℕ) → CameBefore behind left given
    → (came : List ℕ) × CameBefore bytes left came × (all (ended_lines (lines_of came)) ≡ front (course_of peers next (ended_lines (lines_of given))))

-- the next line's event is `event`, and the lines `behind` follow; a line without an LF is the last
abbrev pub AsksEvent : List ℕ → ℕ → List ℕ → HostEvent → Bool → Lines → Option (List ℕ) → Type 0
AsksEvent peers first bytes event ended now left =
    (behind : List ℕ) × (course_of peers first (lines_of bytes) ≡ in_front event (course_of peers now.number (lines_of behind))) × RemainingInput now.window left behind
    × (ended ≡ false → behind ≡ []) × (ended ≡ true → IsAfter peers (course_of peers first) (in_front event) now.number bytes behind)

-- the next line gives a text
abbrev pub GivesNext : ℕ → List ℕ → Lines → Option (List ℕ) → Type 0
GivesNext first bytes now left = (number : ℕ) × (line : Line) × IsNextLine first bytes kinds.Played number line now.number now.window left × NamesGive (words_of (said line))

-- the meaning of the next of these lines, the first of which has the number `first`: no line is left, as
-- all are skipped; a feed; an event; the line's fault; a read failed, and the complete lines are all
-- skipped; or the text that the line gives could not be allocated
abbrev pub AsksNext : List ℕ → ℕ → List ℕ → Result NextAsked PlayFault → Lines → Option (List ℕ) → Type 0
AsksNext peers first bytes (Ok Over) now left = course_of peers first (lines_of bytes) ≡ course_ends scripts.Over
AsksNext peers first bytes (Ok FeedAfter) now left = (feed : List ℕ) × (course_of peers first (lines_of bytes) ≡ course_ends (Fed feed)) × RemainingInput now.window left feed
AsksNext peers first bytes (Ok (Does event ended)) now left = AsksEvent peers first bytes event ended now left
AsksNext peers first bytes (Err (BadLine number)) now left = course_of peers first (lines_of bytes) ≡ course_ends (Faulty (scripts.BadLine number))
AsksNext peers first bytes (Err (LineTooLong number)) now left = course_of peers first (lines_of bytes) ≡ course_ends (Faulty (scripts.LineTooLong number))
AsksNext peers first bytes (Err ReadFailed) now left = (given : List ℕ) × CameBefore bytes left given × (course_of peers first (ended_lines (lines_of given)) ≡ course_ends scripts.Over)
AsksNext peers first bytes (Err OutOfMemory) now left = GivesNext first bytes now left
AsksNext peers first bytes (Err BadHosts) now left = ⊥
AsksNext peers first bytes (Err (Feed fault)) now left = ⊥
AsksNext peers first bytes (Err WriteFailed) now left = ⊥

-- an event whose line others may follow
abbrev pub has_more_after : NextAsked → Bool
has_more_after Over = false
has_more_after FeedAfter = false
has_more_after (Does event ended) = ended
