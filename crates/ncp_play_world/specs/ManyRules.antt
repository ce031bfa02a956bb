-- The events of a script of two to eight hosts (this profile).
use Rattle.std.specs.Prelude.{◌≡◌, ◌<◌, ℕ, Bool, true, false, List, Option, Some, None, get_or}
use Rattle.ncp_transcript.specs.Notes as host_notes
use Rattle.ncp_play_script.specs.FirstLines.{is_many}
use Rattle.ncp_play_script.specs.Words.{words_of}
use Rattle.ncp_play_script.specs.Scripts.{Script, lines_of, said}
use Rattle.ncp_play_reader.specs.NextLines.{Numbered, next_from}
use Rattle.ncp_transcript_many.specs.declared.many_event.ManyEvent.{ManyEvent}
use Rattle.ncp_transcript_many.specs.declared.many_note.ManyNote.{ManyNote}
use Rattle.ncp_transcript_many.specs.declared.many_note.ManyNote.TheVariants as many
use Rattle.ncp_transcript_many.specs.Network.{are_hosts}
use Rattle.ncp_transcript_many.specs.ManyTranscript.{Noted_many, new_many}
use Rattle.ncp_world.specs.ManyKind.{many_kind}
use Rattle.ncp_play_simulation.specs.Rules.{Rules, script}
use Rattle.ncp_play_world_lines.specs.declared.first_line.HostAndPeer.{HostAndPeer}
use Rattle.ncp_play_world_lines.specs.declared.first_line.FirstLine.{FirstLine}
use Rattle.ncp_play_world_lines.specs.declared.settling.Directive.{Directive}
use Rattle.ncp_play_world_lines.specs.declared.settling.ScriptNote.{ScriptNote}
use Rattle.ncp_play_world_lines.specs.ManyLines.{many_line_of}
use Rattle.ncp_play_world.specs.Traces.{Staged}
use Rattle.ncp_play_world.specs.HostsRules.{traced_of, rules_of}
use Rattle.ncp_play_world.specs.ManyHosts.{many_of}

-- the first line that is not skipped begins with the word `many`
abbrev pub names_many : Option Numbered → Bool
names_many None = false
names_many (Some it) = is_many (words_of (said it.1))

abbrev pub is_many_script : List ℕ → Bool
is_many_script bytes = names_many (next_from 1 (lines_of bytes))

-- a call was refused
abbrev pub is_many_refusal : ManyNote → Bool
is_many_refusal (many.Called host note) = host_notes.is_refusal note
is_many_refusal (many.Out host note) = false
is_many_refusal (many.Came from to link note) = false
is_many_refusal (many.Lost from to link) = false
is_many_refusal (many.FoundDead from to link) = false
is_many_refusal (many.Answered from to link note) = false
is_many_refusal (many.Nothing event) = false

abbrev pub StagedMany : Type 0
StagedMany = Staged Noted_many ManyNote

-- hosts after one more script note
abbrev pub many_traced : ScriptNote ManyNote → StagedMany → StagedMany
many_traced trace s = traced_of many_kind trace s

-- the first line names the hosts, and a sender to watch, which changes no event; the lines after it are
-- events of new hosts, or `settle`
abbrev pub many_rules : Rules (FirstLine (List ℕ) HostAndPeer) (Directive ManyEvent) (ScriptNote ManyNote) StagedMany
many_rules = rules_of many_kind many_of (λ named. many_line_of named.hosts) (λ named. new_many named.hosts) is_many_refusal

-- valid hosts: each number fits the field of a leader
abbrev pub AreProper : List ℕ → Type 0
AreProper hosts = (are_hosts hosts ≡ true) × ((place : ℕ) → get_or hosts place 0 < 256)

-- the script of two to eight hosts that the bytes encode
abbrev pub many_script : List ℕ → Script (FirstLine (List ℕ) HostAndPeer) (Directive ManyEvent)
many_script bytes = script many_rules bytes
