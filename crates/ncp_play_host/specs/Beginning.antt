-- The first line of a one-host script: it names the host.
use Rattle.std.specs.Prelude.{◌≡◌, ℕ, Bool, true, false, List, [], Option, Some, None, Result, Ok, Err}
use Rattle.ncp_play_stream.specs.Streams.{RemainingInput}
use Rattle.ncp_host.specs.Host.{new_host}
use Rattle.ncp_transcript.specs.Alone.{Alone}
use Rattle.ncp_transcript.specs.Runs.{IsHostTranscript}
use Rattle.ncp_play_script.specs.declared.first_lines.HostAndPeers.{HostAndPeers}
use Rattle.ncp_play_script.specs.declared.host_lines.HostEvent.{HostEvent}
use Rattle.ncp_play_script.specs.FirstLines.{Named, named_in, first_of_host}
use Rattle.ncp_play_script.specs.HostScripts.{host_script}
use Rattle.ncp_play_script.specs.Scripts as scripts
use Rattle.ncp_play_script.specs.Scripts.{EventPlan, NoHosts, Plays, lines_of}
use Rattle.ncp_play_reader.specs.declared.lines.Lines.{Lines}
use Rattle.ncp_play_reader.specs.NextLines.{next_from, ended_lines, CameBefore}
use Rattle.ncp_play_notes.specs.declared.fault.PlayFault.{PlayFault}
use Rattle.ncp_play_notes.specs.declared.fault.PlayFault.TheVariants.{BadLine, LineTooLong, BadHosts, Feed, ReadFailed, WriteFailed, OutOfMemory}
use Rattle.ncp_play_host.specs.Asking.{course_of, script_of_lines}

-- the host that a first line names, before any input
abbrev pub begun_by : Named → Alone
begun_by named = record { host = new_host named.me named.peers; notes = [] }

-- the host that the words of a first line name; or they name none; or allocation failed
abbrev pub IsHostOf : List (List ℕ) → Result (Alone × HostAndPeers) PlayFault → Type 0
IsHostOf words (Ok (alone, hosts)) = (first_of_host words ≡ Some (named_in hosts)) × (alone ≡ begun_by (named_in hosts))
IsHostOf words (Err BadHosts) = first_of_host words ≡ None
IsHostOf words (Err OutOfMemory) = (named : Named) × (first_of_host words ≡ Some named)
IsHostOf words (Err (BadLine line)) = ⊥
IsHostOf words (Err (LineTooLong line)) = ⊥
IsHostOf words (Err (Feed fault)) = ⊥
IsHostOf words (Err ReadFailed) = ⊥
IsHostOf words (Err WriteFailed) = ⊥

-- the first line names this host, and the lines `behind` follow; a line without an LF is the last. If a
-- read fails in `behind`, the complete lines of the whole name the same host, followed by the events of
-- the complete lines of `behind`
abbrev pub IsBegun : List ℕ → Named → Alone → Bool → Lines → Option (List ℕ) → Type 0
IsBegun bytes named alone ended now left =
    (behind : List ℕ) × (host_script bytes ≡ Plays named (course_of named.peers now.number (lines_of behind))) × (alone ≡ begun_by named) × RemainingInput now.window left behind
    × (ended ≡ false → behind ≡ [])
    × (ended ≡ true → (left' : Option (List ℕ)) (given : List ℕ) → CameBefore behind left' given
    → (came : List ℕ) × CameBefore bytes left' came × (script_of_lines (ended_lines (lines_of came)) ≡ Plays named (course_of named.peers now.number (ended_lines (lines_of given)))))

-- the result of reading the first line; on allocation failure the empty list is a transcript of the named
-- host; after a failed read the complete lines are all skipped
abbrev pub HostBegins : List ℕ → Result (Alone × HostAndPeers × Bool) PlayFault → Lines → Option (List ℕ) → Type 0
HostBegins bytes (Ok (alone, hosts, ended)) now left = IsBegun bytes (named_in hosts) alone ended now left
HostBegins bytes (Err BadHosts) now left = host_script bytes ≡ NoHosts scripts.BadHosts
HostBegins bytes (Err (LineTooLong line)) now left = host_script bytes ≡ NoHosts (scripts.LineTooLong line)
HostBegins bytes (Err OutOfMemory) now left = (named : Named) × (course : EventPlan HostEvent) × (host_script bytes ≡ Plays named course) × IsHostTranscript [] (begun_by named).host
HostBegins bytes (Err ReadFailed) now left = (given : List ℕ) × CameBefore bytes left given × (next_from 1 (ended_lines (lines_of given)) ≡ None)
HostBegins bytes (Err (BadLine line)) now left = ⊥
HostBegins bytes (Err (Feed fault)) now left = ⊥
HostBegins bytes (Err WriteFailed) now left = ⊥
