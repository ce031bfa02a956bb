-- Transcripts of a world as runs of the rules, and of the model.
use Rattle.std.specs.Prelude.{◌≡◌, List}
use Rattle.ncp_proof_machine.specs.Hosts as hosts
use Rattle.ncp_transcript_two.specs.World.{WorldEvent, world_run_from, notes_from}
use Rattle.ncp_transcript_two.specs.Watch.{Both, no_histories, histories_from}
use Rattle.ncp_transcript_two.specs.Tie.{AreEvents, Refines}
use Rattle.ncp_transcript_two.specs.declared.note.Note.{Note}
use Rattle.ncp_transcript_two.specs.Between.{Hosts}
use Rattle.ncp_transcript_two.specs.Transcript.{began}
use Rattle.ncp_transcript_two.specs.Seen.{seen, told, histories}

-- the histories of a transcript that leads to these hosts
abbrev pub histories_of : List Note → Hosts → Both
histories_of ns w = histories ns (began w) no_histories

-- some events of the rules lead to the observed state, with the bodies and the histories of the notes
abbrev pub IsOfRules : List Note → Hosts → Type 0
IsOfRules ns w =
    (events : List WorldEvent) × AreEvents events × (world_run_from events (seen (began w)) ≡ seen w) × (notes_from events (seen (began w)) ≡ told ns)
    × (histories_from events (seen (began w)) no_histories ≡ histories_of ns w)

-- some events of the model lead to two hosts with these histories, and the observed state refines them:
-- it has their flags, queued commands, ends, echoes and errors, and each slot and each link of the subnet
-- holds the encoding of the message that the model has there
abbrev pub IsOfModelsHosts : List Note → Hosts → Type 0
IsOfModelsHosts ns w =
    (events : List hosts.NodeEvent) × Refines (hosts.run events) (seen w)
    × ((hosts.run events).this.pasts ≡ (histories_of ns w).this) × ((hosts.run events).that.pasts ≡ (histories_of ns w).that)
