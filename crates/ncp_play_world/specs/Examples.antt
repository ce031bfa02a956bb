-- Example notes of two hosts.
use Rattle.std.specs.Prelude.{List, [], ◌∷◌}
use Rattle.ncp_numbers.specs.Bytes.{bits_of_bytes}
use Rattle.ncp_wire.specs.declared.answer.Answer.TheVariants as answers
use Rattle.ncp_model.specs.declared.call_fault.CallFault.TheVariants.{NoEntry}
use Rattle.ncp_model.specs.declared.outcomes.Took.TheVariants.{Admitted}
use Rattle.ncp_model.specs.declared.pair.Pair.{Pair}
use Rattle.ncp_peer.specs.declared.received.Received.TheVariants as received
use Rattle.ncp_transcript.specs.declared.call.Call.TheVariants as calls
use Rattle.ncp_transcript.specs.declared.note.HostNote.{HostNote}
use Rattle.ncp_transcript.specs.declared.note.HostNote.TheVariants as host_notes
use Rattle.ncp_transcript_two.specs.declared.side.Side.TheVariants.{A, B}
use Rattle.ncp_transcript_two.specs.declared.note.Move.TheVariants as moves
use Rattle.ncp_transcript_two.specs.declared.note.Note.{Note}
use Rattle.ncp_transcript_two.specs.declared.note.Note.TheVariants as notes

abbrev pub sender_pair : Pair
sender_pair = record { local = 3; remote = 2 }

abbrev pub receiver : Pair
receiver = record { local = 2; remote = 3 }

-- an RST in a message to host 2, and an RRP in one to host 1; and both as they arrive
abbrev pub rst_out : HostNote
rst_out = host_notes.Out (bits_of_bytes (0 ∷ 2 ∷ 0 ∷ 0 ∷ 0 ∷ 8 ∷ 0 ∷ 1 ∷ 0 ∷ 12 ∷ []))

abbrev pub rrp_out : HostNote
rrp_out = host_notes.Out (bits_of_bytes (0 ∷ 1 ∷ 0 ∷ 0 ∷ 0 ∷ 8 ∷ 0 ∷ 1 ∷ 0 ∷ 13 ∷ []))

abbrev pub control_came : HostNote
control_came = host_notes.In [] (received.Control 1)

-- the answers that the sender receives
abbrev pub rfnm_note : HostNote
rfnm_note = host_notes.Answered 2 0 answers.Rfnm received.Answered

abbrev pub incomplete_note : HostNote
incomplete_note = host_notes.Answered 2 2 answers.Incomplete received.Answered

abbrev pub dead_note : HostNote
dead_note = host_notes.Answered 2 2 answers.Dead received.Answered

-- both hosts come up
abbrev pub coming_up : List Note
coming_up =
    notes.Called A (host_notes.Done (calls.Reset 2))
    ∷ notes.Out A rst_out
    ∷ notes.Came A 0 control_came
    ∷ notes.Answered A 0 rfnm_note
    ∷ notes.Out B rrp_out
    ∷ notes.Came B 0 control_came
    ∷ notes.Answered B 0 rfnm_note
    ∷ notes.Called B (host_notes.Done (calls.AskReceive 1 receiver.local receiver.remote 1024))
    ∷ []

-- each possible move of a message, and each impossible one
abbrev pub each_move : List Note
each_move =
    notes.Lost A 2
    ∷ notes.Answered A 2 incomplete_note
    ∷ notes.FoundDead A 2
    ∷ notes.Answered A 2 dead_note
    ∷ notes.Came A 2 (host_notes.In [] (received.Text Admitted))
    ∷ notes.Nothing A 2 moves.Deliver
    ∷ notes.Nothing A 2 moves.Lose
    ∷ notes.Nothing B 255 moves.Dead
    ∷ notes.Nothing B 0 moves.Answer
    ∷ notes.Out A host_notes.Nothing
    ∷ notes.Called B (host_notes.Refused (calls.State 1 receiver) NoEntry)
    ∷ []
