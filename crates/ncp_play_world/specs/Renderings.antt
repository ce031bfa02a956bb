-- The renderings of a script: the lines of each note, or a recording: the header of a file and then the
-- record of each note.
use Rattle.std.specs.Prelude.{ℕ, List, [], ◌++◌, Option, option_map}
use Rattle.ncp_model.specs.declared.pair.Pair.{Pair}
use Rattle.ncp_play_files.specs.declared.version.Version.TheVariants.{Two}
use Rattle.ncp_play_files.specs.Versions.{header_of}
use Rattle.ncp_transcript_two.specs.declared.note.Note.{Note}
use Rattle.ncp_transcript_two.specs.declared.ledger.Ledger.{Ledger}
use Rattle.ncp_transcript_two.specs.declared.side.Side.{Side}
use Rattle.ncp_transcript_two.specs.Ledgers.{ledger_of}
use Rattle.ncp_transcript_two.specs.Transcript.{Noted_hosts}
use Rattle.ncp_transcript_many.specs.declared.many_note.ManyNote.{ManyNote}
use Rattle.ncp_transcript_many.specs.Network.{Network}
use Rattle.ncp_world.specs.ManyLedgers.{many_ledger}
use Rattle.ncp_play_script.specs.declared.first_lines.TwoHosts.{TwoHosts}
use Rattle.ncp_play_simulation.specs.Printing.{Rendering}
use Rattle.ncp_play_world_lines.specs.declared.first_line.Watch.{Watch}
use Rattle.ncp_play_world_lines.specs.declared.first_line.HostAndPeer.{HostAndPeer}
use Rattle.ncp_play_world_lines.specs.declared.first_line.FirstLine.{FirstLine}
use Rattle.ncp_play_world_lines.specs.WorldNotes.{world_note_lines}
use Rattle.ncp_play_world_lines.specs.ManyNotes.{many_note_lines}
use Rattle.ncp_play_world_lines.specs.Recorded.{note_bytes, many_note_bytes}
use Rattle.ncp_play_world_lines.specs.declared.settling.ScriptNote.{ScriptNote}
use Rattle.ncp_play_world_lines.specs.declared.settling.ScriptNote.TheVariants.{Noted, Settled}
use Rattle.ncp_play_world_lines.specs.Settling.{trace_lines, trace_bytes}
use Rattle.ncp_play_world.specs.Traces.{Staged}
use Rattle.ncp_play_world.specs.LedgerLines.{ledger_line}
use Rattle.ncp_play_world.specs.WorldRules.{StagedWorld}
use Rattle.ncp_play_world.specs.ManyRules.{StagedMany}

-- the ledger follows the lines of a note; it does not follow the line of the word `settle`, which changes
-- nothing
abbrev pub ledger_of_trace : {N : Type 0} → Option (Option Ledger) → ScriptNote N → List ℕ
ledger_of_trace watched (Noted note) = ledger_line watched
ledger_of_trace watched (Settled many) = []

-- the lines of a script note, followed by that of the ledger of the hosts after it; with the lines of a
-- note, and the ledger of a sender
abbrev pub lines_watching : {H N S : Type 0} → (ℕ → N → List ℕ) → (S → Pair → H → Option Ledger) → Option (Watch S) → Rendering (ScriptNote N) (Staged (Noted_hosts H N) N)
lines_watching note_lines ledger_at watch = record {
  head = [];
  of_note = λ number trace s. trace_lines note_lines number trace ++ ledger_of_trace (option_map (λ it. ledger_at it.sender it.pair s.hosts.hosts) watch) trace;
}

-- the rendering as lines of a script of two hosts with this first line
abbrev pub lines_of_script : FirstLine TwoHosts Side → Rendering (ScriptNote Note) StagedWorld
lines_of_script first = lines_watching world_note_lines ledger_of first.watch

-- the same for two to eight hosts
abbrev pub ledger_among : HostAndPeer → Pair → Network → Option Ledger
ledger_among it pair m = many_ledger it.host it.peer pair m

abbrev pub lines_of_many : FirstLine (List ℕ) HostAndPeer → Rendering (ScriptNote ManyNote) StagedMany
lines_of_many first = lines_watching many_note_lines ledger_among first.watch

-- the rendering as a recording, with the bytes of a note
abbrev pub recording_with : {N W : Type 0} → (N → List ℕ) → Rendering (ScriptNote N) W
recording_with note_bytes = record { head = header_of Two; of_note = λ number trace s. trace_bytes note_bytes trace }

-- of a script of two hosts; then: of two to eight
abbrev pub recording_of : FirstLine TwoHosts Side → Rendering (ScriptNote Note) StagedWorld
recording_of first = recording_with (note_bytes first.hosts)

abbrev pub recording_of_many : FirstLine (List ℕ) HostAndPeer → Rendering (ScriptNote ManyNote) StagedMany
recording_of_many first = recording_with many_note_bytes
