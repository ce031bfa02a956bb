-- The effect and the output of the players of two hosts, and of two to eight.
use Rattle.std.specs.Prelude.{ℕ, Bool, List, Option, Result}
use Rattle.ncp_play_notes.specs.declared.fault.PlayFault.{PlayFault}
use Rattle.ncp_play_script.specs.declared.first_lines.TwoHosts.{TwoHosts}
use Rattle.ncp_transcript_two.specs.declared.side.Side.{Side}
use Rattle.ncp_transcript_two.specs.declared.note.Note.{Note}
use Rattle.ncp_transcript_many.specs.declared.many_note.ManyNote.{ManyNote}
use Rattle.ncp_play_world_lines.specs.declared.settling.ScriptNote.{ScriptNote}
use Rattle.ncp_play_simulation.specs.Printing.{Rendering}
use Rattle.ncp_play_simulation.specs.Players.{PlaysScript}
use Rattle.ncp_play_world_lines.specs.declared.first_line.HostAndPeer.{HostAndPeer}
use Rattle.ncp_play_world_lines.specs.declared.first_line.FirstLine.{FirstLine}
use Rattle.ncp_play_world.specs.WorldRules.{StagedWorld, world_rules}
use Rattle.ncp_play_world.specs.ManyRules.{StagedMany, many_rules}

-- the effect and the output of a script of two hosts, by the result
abbrev pub PlaysWorld : (FirstLine TwoHosts Side → Rendering (ScriptNote Note) StagedWorld) → List ℕ → List ℕ → Result Bool PlayFault → Option (List ℕ) → Option (List ℕ) → Type 0
PlaysWorld rendering bytes was result left written = PlaysScript world_rules rendering bytes was result left written

-- the same for a script of two to eight hosts
abbrev pub PlaysMany : (FirstLine (List ℕ) HostAndPeer → Rendering (ScriptNote ManyNote) StagedMany) → List ℕ → List ℕ → Result Bool PlayFault → Option (List ℕ) → Option (List ℕ) → Type 0
PlaysMany rendering bytes was result left written = PlaysScript many_rules rendering bytes was result left written
