-- Example notes of two hosts: an RST is sent, arrives, and is answered.
use Rattle.std.specs.Prelude.{ℕ, List, [], ◌∷◌}
use Rattle.ncp_numbers.specs.Bytes.{bits_of_bytes}
use Rattle.ncp_wire.specs.declared.answer.Answer.TheVariants as answers
use Rattle.ncp_peer.specs.declared.received.Received.TheVariants as received
use Rattle.ncp_play_script.specs.declared.first_lines.TwoHosts.{TwoHosts}
use Rattle.ncp_transcript.specs.declared.call.Call.TheVariants as calls
use Rattle.ncp_transcript.specs.declared.note.HostNote.TheVariants as host_notes
use Rattle.ncp_transcript_two.specs.declared.side.Side.TheVariants.{A}
use Rattle.ncp_transcript_two.specs.declared.note.Note.{Note}
use Rattle.ncp_transcript_two.specs.declared.note.Note.TheVariants as notes

abbrev pub two_hosts : TwoHosts
two_hosts = record { a = 1; b = 2 }

-- an RST in a message to host 2, and as it arrives from host 1
abbrev pub rst_out_bytes : List ℕ
rst_out_bytes = 0 ∷ 2 ∷ 0 ∷ 0 ∷ 0 ∷ 8 ∷ 0 ∷ 1 ∷ 0 ∷ 12 ∷ []

abbrev pub rst_came_bytes : List ℕ
rst_came_bytes = 0 ∷ 1 ∷ 0 ∷ 0 ∷ 0 ∷ 8 ∷ 0 ∷ 1 ∷ 0 ∷ 12 ∷ []

abbrev pub a_reset : List Note
a_reset =
    notes.Called A (host_notes.Done (calls.Reset 2))
    ∷ notes.Out A (host_notes.Out (bits_of_bytes rst_out_bytes))
    ∷ notes.Came A 0 (host_notes.In (bits_of_bytes rst_came_bytes) (received.Control 1))
    ∷ notes.Answered A 0 (host_notes.Answered 2 0 answers.Rfnm received.Answered)
    ∷ []

-- notes without a record
abbrev pub unrecorded : List Note
unrecorded = notes.Out A host_notes.Nothing ∷ notes.Lost A 2 ∷ notes.FoundDead A 2 ∷ []
