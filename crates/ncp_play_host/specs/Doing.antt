-- The effect on a host of a script's lines.
use Rattle.std.specs.Prelude.{◌≡◌, ℕ, true, List, Option, Some, None, Result, Ok, Err}
use Rattle.ncp_play_stream.specs.Streams.{RemainingInput}
use Rattle.ncp_transcript.specs.Alone.{Alone, AreHostSteps}
use Rattle.ncp_play_script.specs.declared.host_lines.HostEvent.{HostEvent}
use Rattle.ncp_play_script.specs.Scripts as scripts
use Rattle.ncp_play_script.specs.Scripts.{EventPlan, Ending, lines_of, Fed, Faulty}
use Rattle.ncp_play_reader.specs.declared.lines.Lines.{Lines}
use Rattle.ncp_play_reader.specs.NextLines.{ended_lines, CameBefore}
use Rattle.ncp_play_notes.specs.declared.fault.PlayFault.{PlayFault}
use Rattle.ncp_play_notes.specs.declared.fault.PlayFault.TheVariants.{BadLine, LineTooLong, BadHosts, Feed, ReadFailed, WriteFailed, OutOfMemory}
use Rattle.ncp_play_host.specs.declared.lines.LinesEnd.{LinesEnd}
use Rattle.ncp_play_host.specs.declared.lines.LinesEnd.TheVariants.{Over, FeedAfter}
use Rattle.ncp_play_host.specs.Events.{inputs_of, AreEvents, AreFirstInputs}
use Rattle.ncp_play_host.specs.Asking.{course_of, AsksEvent}

-- all inputs of the plan's events were applied, and it ends with `ending`
abbrev pub DoesAll : List ℕ → EventPlan HostEvent → Ending → Alone → Alone → Type 0
DoesAll peers course ending before now = (course.ending ≡ ending) × AreEvents peers course.events before now

-- a prefix of the inputs of the plan's events was applied
abbrev pub DoesFirst : List ℕ → EventPlan HostEvent → Alone → Alone → Type 0
DoesFirst peers course before now = AreFirstInputs peers course.events before now

-- the effect of these lines, the first of which has the number `first`, on a host with these peers, by
-- the result; after a failed read, the effect of the complete lines
abbrev pub LinesDo : List ℕ → ℕ → List ℕ → Alone → Result LinesEnd PlayFault → Alone → List ℕ → Option (List ℕ) → Type 0
LinesDo peers first bytes before (Ok Over) now window left = DoesAll peers (course_of peers first (lines_of bytes)) scripts.Over before now
LinesDo peers first bytes before (Ok FeedAfter) now window left = (feed : List ℕ) × DoesAll peers (course_of peers first (lines_of bytes)) (Fed feed) before now × RemainingInput window left feed
LinesDo peers first bytes before (Err (BadLine number)) now window left = DoesAll peers (course_of peers first (lines_of bytes)) (Faulty (scripts.BadLine number)) before now
LinesDo peers first bytes before (Err (LineTooLong number)) now window left = DoesAll peers (course_of peers first (lines_of bytes)) (Faulty (scripts.LineTooLong number)) before now
LinesDo peers first bytes before (Err ReadFailed) now window left = (given : List ℕ) × CameBefore bytes left given × DoesAll peers (course_of peers first (ended_lines (lines_of given))) scripts.Over before now
LinesDo peers first bytes before (Err OutOfMemory) now window left = DoesFirst peers (course_of peers first (lines_of bytes)) before now
LinesDo peers first bytes before (Err WriteFailed) now window left = DoesFirst peers (course_of peers first (lines_of bytes)) before now
LinesDo peers first bytes before (Err BadHosts) now window left = ⊥
LinesDo peers first bytes before (Err (Feed fault)) now window left = ⊥

-- the effect of the next line: it ends the lines; or it is an event, whose inputs were applied, and
-- others may follow
abbrev pub NextDoes : List ℕ → ℕ → List ℕ → Alone → Result (Option LinesEnd) PlayFault → Alone → Lines → Option (List ℕ) → Type 0
NextDoes peers first bytes before (Ok (Some end)) now lines left = LinesDo peers first bytes before (Ok end) now lines.window left
NextDoes peers first bytes before (Ok None) now lines left = (event : HostEvent) × AsksEvent peers first bytes event true lines left × AreHostSteps (inputs_of peers event before.host) before now
NextDoes peers first bytes before (Err fault) now lines left = LinesDo peers first bytes before (Err fault) now lines.window left
