-- A message of host 1 to host 2, delivered once and delivered twice: the notes of both hosts.
use Rattle.std.specs.Prelude.{Bool, List, [], ◌∷◌}
use Rattle.ncp_numbers.specs.Bytes.{bits_of_bytes}
use Rattle.ncp_wire.specs.declared.command.Command.{Command}
use Rattle.ncp_wire.specs.declared.answer.Answer.TheVariants.{Rfnm}
use Rattle.ncp_wire.specs.Spelling.{spellings}
use Rattle.ncp_subnet.specs.Messages.{from_host}
use Rattle.ncp_peer.specs.declared.received.Received.{Received}
use Rattle.ncp_peer.specs.Hearing.{control_size}
use Rattle.ncp_peer.specs.PeerState.{control_link}
use Rattle.ncp_peer.specs.Output.{message_to}
use Rattle.ncp_transcript.specs.declared.call.Call.{Call}
use Rattle.ncp_transcript.specs.declared.note.HostNote.{HostNote}
use Rattle.ncp_transcript_two.specs.declared.side.Side.TheVariants.{A, B}
use Rattle.ncp_proof_statement.specs.Notes.{SidedNotes}

-- the RST of host 1 to host 2
abbrev pub reset_message : List Bool
reset_message = message_to 2 control_link control_size (bits_of_bytes (spellings (Command.Rst ∷ [])))

-- host 1 resets; its RST is sent, delivered and answered
abbrev pub delivered_once : Received → Received → SidedNotes
delivered_once there here =
    (A, HostNote.Done (Call.Reset 2)) ∷ (A, HostNote.Out reset_message) ∷ (B, HostNote.In (from_host 1 reset_message) there) ∷ (A, HostNote.Answered 2 0 Rfnm here) ∷ []

-- the same, but the RST is delivered twice
abbrev pub delivered_twice : Received → Received → Received → SidedNotes
delivered_twice there again here =
    (A, HostNote.Done (Call.Reset 2)) ∷ (A, HostNote.Out reset_message) ∷ (B, HostNote.In (from_host 1 reset_message) there) ∷ (B, HostNote.In (from_host 1 reset_message) again) ∷ (A, HostNote.Answered 2 0 Rfnm here) ∷ []
