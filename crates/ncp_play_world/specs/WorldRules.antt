-- The events of a script of two hosts (this profile).
use Rattle.std.specs.Prelude.{ℕ, Bool, false, List}
use Rattle.ncp_transcript.specs.Notes as host_notes
use Rattle.ncp_play_script.specs.declared.first_lines.TwoHosts.{TwoHosts}
use Rattle.ncp_play_script.specs.Scripts.{Script}
use Rattle.ncp_transcript_two.specs.declared.event.Event.{Event}
use Rattle.ncp_transcript_two.specs.declared.side.Side.{Side}
use Rattle.ncp_transcript_two.specs.declared.note.Note.{Note}
use Rattle.ncp_transcript_two.specs.declared.note.Note.TheVariants as notes
use Rattle.ncp_transcript_two.specs.Transcript.{Noted_world, new_world}
use Rattle.ncp_world.specs.TwoKind.{two_kind}
use Rattle.ncp_play_simulation.specs.Rules.{Rules, script}
use Rattle.ncp_play_world_lines.specs.declared.first_line.FirstLine.{FirstLine}
use Rattle.ncp_play_world_lines.specs.FirstLine.{first_line_of}
use Rattle.ncp_play_world_lines.specs.WorldLines.{world_line_of}
use Rattle.ncp_play_world_lines.specs.declared.settling.Directive.{Directive}
use Rattle.ncp_play_world_lines.specs.declared.settling.ScriptNote.{ScriptNote}
use Rattle.ncp_play_world.specs.Traces.{Staged}
use Rattle.ncp_play_world.specs.HostsRules.{traced_of, rules_of}

-- a call was refused
abbrev pub is_noted_refusal : Note → Bool
is_noted_refusal (notes.Called side note) = host_notes.is_refusal note
is_noted_refusal (notes.Out side note) = false
is_noted_refusal (notes.Came side link note) = false
is_noted_refusal (notes.Lost side link) = false
is_noted_refusal (notes.FoundDead side link) = false
is_noted_refusal (notes.Answered side link note) = false
is_noted_refusal (notes.Nothing side link wanted) = false

abbrev pub StagedWorld : Type 0
StagedWorld = Staged Noted_world Note

-- two hosts after one more script note
abbrev pub world_traced : ScriptNote Note → StagedWorld → StagedWorld
world_traced trace s = traced_of two_kind trace s

-- the first line names the two hosts, and a sender to watch, which changes no event; the lines after it
-- are events of a new world, or `settle`
abbrev pub world_rules : Rules (FirstLine TwoHosts Side) (Directive Event) (ScriptNote Note) StagedWorld
world_rules = rules_of two_kind first_line_of (λ named. world_line_of named.hosts) (λ named. new_world named.hosts.a named.hosts.b) is_noted_refusal

-- the script of two hosts that the bytes encode
abbrev pub world_script : List ℕ → Script (FirstLine TwoHosts Side) (Directive Event)
world_script bytes = script world_rules bytes
