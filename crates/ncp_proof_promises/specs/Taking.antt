-- The subnet accepts each message sent (BBN Report 1822, section 3): after the note of the message, its
-- link has it, accepted. So no message is lost without a note that reports it.
use Rattle.std.specs.Prelude.{◌≡◌, List}
use Rattle.ncp_transcript_two.specs.Subnet.{Accepted, link_in}
use Rattle.ncp_transcript_two.specs.World.{World, NoteBody, Out}
use Rattle.ncp_transcript_two.specs.declared.note.Note.{Note}
use Rattle.ncp_transcript_two.specs.Between.{Hosts}
use Rattle.ncp_transcript_two.specs.Transcript.{began}
use Rattle.ncp_proof_promises.specs.EachNote.{OfEachNote}

abbrev pub IsTaken : NoteBody → World → World → Type 0
IsTaken (Out message) v after = after.going (link_in message) ≡ Accepted message
IsTaken told v after = Unit {0}

-- it holds for each note of a transcript
abbrev pub EveryOutputAccepted : List Note → Hosts → Type 0
EveryOutputAccepted notes w = OfEachNote IsTaken notes (began w)
