-- The note of an event, by the rules, at the state before it.
use Rattle.std.specs.Prelude.{◌≡◌, ℕ, Bool, if◌then◌else◌, List, Option, None, Some}
use Rattle.ncp_subnet.specs.Transit.{is_accepted}
use Rattle.ncp_subnet.specs.Messages.{arriving, answer_about}
use Rattle.ncp_transcript.specs.declared.call.Call.{Call}
use Rattle.ncp_transcript.specs.declared.note.HostNote.{HostNote}
use Rattle.ncp_transcript.specs.Noting.{CallNoted, note_of_bits, note_of_output}
use Rattle.ncp_transcript_two.specs.declared.side.Side.{Side}
use Rattle.ncp_transcript_two.specs.declared.event.Event.{Event}
use Rattle.ncp_transcript_two.specs.declared.event.Event.TheVariants as events
use Rattle.ncp_transcript_two.specs.declared.note.Move.TheVariants as moves
use Rattle.ncp_transcript_two.specs.declared.note.Note.{Note}
use Rattle.ncp_transcript_two.specs.declared.note.Note.TheVariants as notes
use Rattle.ncp_transcript_two.specs.Seen.{CallFits}
use Rattle.ncp_transcript_two.specs.Between.{Hosts, other, side_number, host_of, transit_of}

-- the note of a call, whose numbers fit the fields of commands, holds what the host notes of it
pub record IsCalled (side : Side) (call : Call) (note : Note) (w : Hosts) : Type 0 where
  pub of_host : HostNote
  pub said : note ≡ notes.Called side of_host
  pub noted : CallNoted call of_host (host_of side w)
  pub fits : CallFits call

-- the note of a delivery of these bits, or `Nothing` if there are none
abbrev pub note_of_coming : Side → ℕ → Option (List Bool) → Hosts → Note
note_of_coming side link None w = notes.Nothing side link moves.Deliver
note_of_coming side link (Some bits) w = notes.Came side link (note_of_bits bits (host_of (other side) w))

abbrev pub note_of_answering : Side → ℕ → Option (List Bool) → Hosts → Note
note_of_answering side link None w = notes.Nothing side link moves.Answer
note_of_answering side link (Some bits) w = notes.Answered side link (note_of_bits bits (host_of side w))

-- the note of a loss, or `Nothing` if the link has no accepted message that may still be delivered; then:
-- the notes of the other events
abbrev pub note_of_loss : Side → ℕ → Hosts → Note
note_of_loss side link w = if is_accepted (transit_of side link w) then notes.Lost side link else notes.Nothing side link moves.Lose

abbrev pub note_of_death : Side → ℕ → Hosts → Note
note_of_death side link w = if is_accepted (transit_of side link w) then notes.FoundDead side link else notes.Nothing side link moves.Dead

abbrev pub note_of_out : Side → Hosts → Note
note_of_out side w = notes.Out side (note_of_output (host_of side w))

abbrev pub note_of_delivery : Side → ℕ → Hosts → Note
note_of_delivery side link w = note_of_coming side link (arriving (side_number side w) (transit_of side link w)) w

abbrev pub note_of_answer : Side → ℕ → Hosts → Note
note_of_answer side link w = note_of_answering side link (answer_about (side_number (other side) w) link (transit_of side link w)) w

abbrev pub Noted : Event → Note → Hosts → Type 0
Noted (events.Call side call) note w = IsCalled side call note w
Noted (events.Out side) note w = note ≡ note_of_out side w
Noted (events.Deliver side link) note w = note ≡ note_of_delivery side link w
Noted (events.Lose side link) note w = note ≡ note_of_loss side link w
Noted (events.Dead side link) note w = note ≡ note_of_death side link w
Noted (events.Answer side link) note w = note ≡ note_of_answer side link w
