-- The effect and the output of the player of a one-host script, by its result (this profile).
use Rattle.std.specs.Prelude.{◌≡◌, ◌⊎◌, ℕ, Bool, not, List, [], ◌++◌, Option, Some, None, Result, Ok, Err}
use Rattle.std.specs.List.{list_any}
use Rattle.ncp_transcript.specs.declared.note.HostNote.{HostNote}
use Rattle.ncp_transcript.specs.Alone.{Alone}
use Rattle.ncp_transcript.specs.Notes.{is_refusal}
use Rattle.ncp_transcript.specs.Runs.{IsHostTranscript}
use Rattle.ncp_play_script.specs.declared.host_lines.HostEvent.{HostEvent}
use Rattle.ncp_play_script.specs.FirstLines.{Named}
use Rattle.ncp_play_script.specs.HostScripts.{host_script}
use Rattle.ncp_play_script.specs.Scripts as scripts
use Rattle.ncp_play_script.specs.Scripts.{Line, EventPlan, Ending, ScriptFault, Script, NoHosts, Plays, Over, Fed, Faulty, lines_of}
use Rattle.ncp_play_reader.specs.NextLines.{next_from, ended_lines, CameBefore}
use Rattle.ncp_play_feed.specs.Feeds.{FeedDoes}
use Rattle.ncp_play_notes.specs.declared.fault.PlayFault.{PlayFault}
use Rattle.ncp_play_notes.specs.declared.fault.PlayFault.TheVariants.{BadLine, LineTooLong, BadHosts, Feed, ReadFailed, WriteFailed, OutOfMemory}
use Rattle.ncp_play_notes.specs.declared.heading.LineHost.TheVariants.{Host}
use Rattle.ncp_play_notes.specs.declared.heading.LinePrefix.{LinePrefix}
use Rattle.ncp_play_notes.specs.NoteLines.{lines_from}
use Rattle.ncp_play_notes.specs.Playing.{PrintsAs}
use Rattle.ncp_play_host.specs.Events.{AreEvents}
use Rattle.ncp_play_host.specs.Asking.{course_of, script_of_lines}
use Rattle.ncp_play_host.specs.Doing.{DoesAll, DoesFirst}
use Rattle.ncp_play_host.specs.Beginning.{begun_by}

-- ---- effects on the host

-- a fault of a script, as the player returns it
abbrev pub play_fault_of : ScriptFault → PlayFault
play_fault_of (scripts.BadLine line) = BadLine line
play_fault_of (scripts.LineTooLong line) = LineTooLong line
play_fault_of scripts.BadHosts = BadHosts

-- the effect of the end of the lines: none, the feed of the bytes after them, or their fault
abbrev pub EndDoes : Ending → Alone → Result Unit PlayFault → Alone → Option (List ℕ) → Type 0
EndDoes Over before r now left = (r ≡ Ok tt) × (now ≡ before)
EndDoes (Fed feed) before r now left = FeedDoes feed before r now left
EndDoes (Faulty fault) before r now left = (r ≡ Err (play_fault_of fault)) × (now ≡ before)

-- all inputs of the plan's events were applied in order, and then its end took effect
abbrev pub CourseDoes : List ℕ → EventPlan HostEvent → Alone → Result Unit PlayFault → Alone → Option (List ℕ) → Type 0
CourseDoes peers course before r now left = (mid : Alone) × AreEvents peers course.events before mid × EndDoes course.ending mid r now left

-- the effect of these lines and their end on a host with these peers, by the result. On allocation
-- failure or a failed write, possibly only a prefix of the inputs was applied; after a failed read, the
-- inputs of the complete lines
abbrev pub AfterDoes : List ℕ → ℕ → List ℕ → Alone → Result Unit PlayFault → Alone → Option (List ℕ) → Type 0
AfterDoes peers first bytes before (Err ReadFailed) now left = (given : List ℕ) × CameBefore bytes left given × DoesAll peers (course_of peers first (ended_lines (lines_of given))) Over before now
AfterDoes peers first bytes before (Err OutOfMemory) now left = CourseDoes peers (course_of peers first (lines_of bytes)) before (Err OutOfMemory) now left ⊎ DoesFirst peers (course_of peers first (lines_of bytes)) before now
AfterDoes peers first bytes before (Err WriteFailed) now left = CourseDoes peers (course_of peers first (lines_of bytes)) before (Err WriteFailed) now left ⊎ DoesFirst peers (course_of peers first (lines_of bytes)) before now
AfterDoes peers first bytes before (Ok done) now left = CourseDoes peers (course_of peers first (lines_of bytes)) before (Ok done) now left
AfterDoes peers first bytes before (Err (BadLine line)) now left = CourseDoes peers (course_of peers first (lines_of bytes)) before (Err (BadLine line)) now left
AfterDoes peers first bytes before (Err (LineTooLong line)) now left = CourseDoes peers (course_of peers first (lines_of bytes)) before (Err (LineTooLong line)) now left
AfterDoes peers first bytes before (Err BadHosts) now left = CourseDoes peers (course_of peers first (lines_of bytes)) before (Err BadHosts) now left
AfterDoes peers first bytes before (Err (Feed fault)) now left = CourseDoes peers (course_of peers first (lines_of bytes)) before (Err (Feed fault)) now left

-- ---- its transcript

-- the notes of the whole script: a transcript of the host that its first line names
abbrev pub ScriptDoes : Script Named HostEvent → Result Unit PlayFault → List HostNote → Option (List ℕ) → Type 0
ScriptDoes (NoHosts fault) r notes left = (r ≡ Err (play_fault_of fault)) × (notes ≡ [])
ScriptDoes (Plays named course) r notes left = (now : Alone) × CourseDoes named.peers course (begun_by named) r now left × (notes ≡ now.notes) × IsHostTranscript notes now.host

-- the notes of a prefix of its inputs
abbrev pub ScriptBegins : Script Named HostEvent → List HostNote → Type 0
ScriptBegins (NoHosts fault) notes = ⊥
ScriptBegins (Plays named course) notes = (now : Alone) × DoesFirst named.peers course (begun_by named) now × (notes ≡ now.notes) × IsHostTranscript notes now.host

-- the notes of a script that names its host and has no fault
abbrev pub WholeDoes : Script Named HostEvent → List HostNote → Type 0
WholeDoes (NoHosts fault) notes = ⊥
WholeDoes (Plays named course) notes = (now : Alone) × DoesAll named.peers course Over (begun_by named) now × (notes ≡ now.notes) × IsHostTranscript notes now.host

-- the notes of the complete lines of a script, which have no fault; no notes if all these lines are
-- skipped
abbrev pub LinesCame : List Line → List HostNote → Type 0
LinesCame lines notes = ((next_from 1 lines ≡ None) × (notes ≡ [])) ⊎ WholeDoes (script_of_lines lines) notes

-- the notes of the script of these bytes, by the result
abbrev pub HostDoes : List ℕ → Result Unit PlayFault → List HostNote → Option (List ℕ) → Type 0
HostDoes bytes (Err ReadFailed) notes left = (given : List ℕ) × CameBefore bytes left given × LinesCame (ended_lines (lines_of given)) notes
HostDoes bytes (Err OutOfMemory) notes left = ScriptDoes (host_script bytes) (Err OutOfMemory) notes left ⊎ ScriptBegins (host_script bytes) notes
HostDoes bytes (Err WriteFailed) notes left = ScriptDoes (host_script bytes) (Err WriteFailed) notes left ⊎ ScriptBegins (host_script bytes) notes
HostDoes bytes (Ok done) notes left = ScriptDoes (host_script bytes) (Ok done) notes left
HostDoes bytes (Err (BadLine line)) notes left = ScriptDoes (host_script bytes) (Err (BadLine line)) notes left
HostDoes bytes (Err (LineTooLong line)) notes left = ScriptDoes (host_script bytes) (Err (LineTooLong line)) notes left
HostDoes bytes (Err BadHosts) notes left = ScriptDoes (host_script bytes) (Err BadHosts) notes left
HostDoes bytes (Err (Feed fault)) notes left = ScriptDoes (host_script bytes) (Err (Feed fault)) notes left

-- a call was refused
abbrev pub has_refusal : List HostNote → Bool
has_refusal notes = list_any is_refusal notes

-- the notes, by the result; without a fault the result is whether no call was refused
abbrev pub Answers : List ℕ → Result Bool PlayFault → List HostNote → Option (List ℕ) → Type 0
Answers bytes (Ok good) notes left = HostDoes bytes (Ok tt) notes left × (good ≡ not (has_refusal notes))
Answers bytes (Err fault) notes left = HostDoes bytes (Err fault) notes left

-- ---- output

-- the first line has the number 1, and no line names the host
abbrev pub first_line_prefix : LinePrefix
first_line_prefix = record { number = 1; speaker = Host }

-- the output for a script before the out buffer is written
abbrev pub Says : List ℕ → List ℕ → Result Bool PlayFault → Option (List ℕ) → List ℕ → Option (List ℕ) → Type 0
Says bytes was r left page written = (notes : List HostNote) × (heading : LinePrefix) × Answers bytes r notes left × PrintsAs was first_line_prefix notes r heading page written

-- exactly the lines of all notes were written, after `was`
abbrev pub WritesAllLines : List ℕ → List ℕ → Result Bool PlayFault → Option (List ℕ) → Option (List ℕ) → Type 0
WritesAllLines bytes was r left written = (notes : List HostNote) × Answers bytes r notes left × (written ≡ Some (was ++ lines_from first_line_prefix notes))

-- a prefix of them was written, for some result
abbrev pub WritesSomeLines : List ℕ → List ℕ → Option (List ℕ) → Option (List ℕ) → Type 0
WritesSomeLines bytes was left written =
    (r : Result Bool PlayFault) × (notes : List HostNote) × (text : List ℕ) × (more : List ℕ) × Answers bytes r notes left
    × (text ++ more ≡ lines_from first_line_prefix notes) × (written ≡ Some (was ++ text))

-- the output of the player for these bytes, by its result
abbrev pub HostPlayed : List ℕ → List ℕ → Result Bool PlayFault → Option (List ℕ) → Option (List ℕ) → Type 0
HostPlayed bytes was (Ok good) left written = WritesAllLines bytes was (Ok good) left written
HostPlayed bytes was (Err WriteFailed) left written = WritesSomeLines bytes was left written
HostPlayed bytes was (Err (BadLine line)) left written = WritesAllLines bytes was (Err (BadLine line)) left written
HostPlayed bytes was (Err (LineTooLong line)) left written = WritesAllLines bytes was (Err (LineTooLong line)) left written
HostPlayed bytes was (Err BadHosts) left written = WritesAllLines bytes was (Err BadHosts) left written
HostPlayed bytes was (Err (Feed fault)) left written = WritesAllLines bytes was (Err (Feed fault)) left written
HostPlayed bytes was (Err ReadFailed) left written = WritesAllLines bytes was (Err ReadFailed) left written
HostPlayed bytes was (Err OutOfMemory) left written = WritesAllLines bytes was (Err OutOfMemory) left written
