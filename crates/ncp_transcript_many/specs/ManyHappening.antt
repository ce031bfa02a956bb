-- The note of an event among two to eight hosts: the note of two hosts, as defined in Happening of
-- ncp_transcript_two, for the two that the event names, with the sender at side A.
use Rattle.std.specs.Prelude.{◌≡◌, ℕ, ◌==◌, Bool, true, false, not, ◌&&◌}
use Rattle.ncp_transcript.specs.Answers.{is_give}
use Rattle.ncp_transcript_two.specs.declared.side.Side.TheVariants.{A, B}
use Rattle.ncp_transcript_two.specs.declared.event.Event.{Event}
use Rattle.ncp_transcript_two.specs.declared.event.Event.TheVariants as two_events
use Rattle.ncp_transcript_two.specs.declared.note.Move.{Move}
use Rattle.ncp_transcript_two.specs.declared.note.Move.TheVariants as moves
use Rattle.ncp_transcript_two.specs.declared.note.Note.{Note}
use Rattle.ncp_transcript_two.specs.declared.note.Note.TheVariants as notes
use Rattle.ncp_transcript_two.specs.Happening.{Noted}
use Rattle.ncp_transcript_many.specs.declared.many_event.ManyEvent.{ManyEvent}
use Rattle.ncp_transcript_many.specs.declared.many_event.ManyEvent.TheVariants as events
use Rattle.ncp_transcript_many.specs.declared.many_note.ManyNote.{ManyNote}
use Rattle.ncp_transcript_many.specs.declared.many_note.ManyNote.TheVariants as many
use Rattle.ncp_transcript_many.specs.Network.{Network, is_there, between}

-- the two hosts of an event; a call or an output has one host, given twice
abbrev pub ends_of : ManyEvent → ℕ × ℕ
ends_of (events.Call host call) = (host, host)
ends_of (events.Out host) = (host, host)
ends_of (events.Deliver from to link) = (from, to)
ends_of (events.Lose from to link) = (from, to)
ends_of (events.Dead from to link) = (from, to)
ends_of (events.Answer from to link) = (from, to)

-- the event of two hosts, with the sender at side A
abbrev pub as_of_two : ManyEvent → Event
as_of_two (events.Call host call) = two_events.Call A call
as_of_two (events.Out host) = two_events.Out A
as_of_two (events.Deliver from to link) = two_events.Deliver A link
as_of_two (events.Lose from to link) = two_events.Lose A link
as_of_two (events.Dead from to link) = two_events.Dead A link
as_of_two (events.Answer from to link) = two_events.Answer A link

-- the two hosts of a message are present, and differ
abbrev pub are_two : ℕ → ℕ → Network → Bool
are_two from to m = is_there from m && is_there to m && not (from == to)

abbrev pub are_there : ManyEvent → Network → Bool
are_there (events.Call host call) m = is_there host m
are_there (events.Out host) m = is_there host m
are_there (events.Deliver from to link) m = are_two from to m
are_there (events.Lose from to link) m = are_two from to m
are_there (events.Dead from to link) m = are_two from to m
are_there (events.Answer from to link) m = are_two from to m

-- The memory that a copy of an event allocates: the text that a user gives.

abbrev pub is_giving : ManyEvent → Bool
is_giving (events.Call host call) = is_give call
is_giving (events.Out host) = false
is_giving (events.Deliver from to link) = false
is_giving (events.Lose from to link) = false
is_giving (events.Dead from to link) = false
is_giving (events.Answer from to link) = false

-- An event and a note of two hosts, with host numbers in place of the sides.

abbrev pub event_by_numbers : ℕ → ℕ → Event → ManyEvent
event_by_numbers a b (two_events.Call A call) = events.Call a call
event_by_numbers a b (two_events.Call B call) = events.Call b call
event_by_numbers a b (two_events.Out A) = events.Out a
event_by_numbers a b (two_events.Out B) = events.Out b
event_by_numbers a b (two_events.Deliver A link) = events.Deliver a b link
event_by_numbers a b (two_events.Deliver B link) = events.Deliver b a link
event_by_numbers a b (two_events.Lose A link) = events.Lose a b link
event_by_numbers a b (two_events.Lose B link) = events.Lose b a link
event_by_numbers a b (two_events.Dead A link) = events.Dead a b link
event_by_numbers a b (two_events.Dead B link) = events.Dead b a link
event_by_numbers a b (two_events.Answer A link) = events.Answer a b link
event_by_numbers a b (two_events.Answer B link) = events.Answer b a link

abbrev pub wanted_of : Move → ℕ → ℕ → ℕ → ManyEvent
wanted_of moves.Deliver from to link = events.Deliver from to link
wanted_of moves.Lose from to link = events.Lose from to link
wanted_of moves.Dead from to link = events.Dead from to link
wanted_of moves.Answer from to link = events.Answer from to link

abbrev pub by_numbers : ℕ → ℕ → Note → ManyNote
by_numbers a b (notes.Called A note) = many.Called a note
by_numbers a b (notes.Called B note) = many.Called b note
by_numbers a b (notes.Out A note) = many.Out a note
by_numbers a b (notes.Out B note) = many.Out b note
by_numbers a b (notes.Came A link note) = many.Came a b link note
by_numbers a b (notes.Came B link note) = many.Came b a link note
by_numbers a b (notes.Lost A link) = many.Lost a b link
by_numbers a b (notes.Lost B link) = many.Lost b a link
by_numbers a b (notes.FoundDead A link) = many.FoundDead a b link
by_numbers a b (notes.FoundDead B link) = many.FoundDead b a link
by_numbers a b (notes.Answered A link note) = many.Answered a b link note
by_numbers a b (notes.Answered B link note) = many.Answered b a link note
by_numbers a b (notes.Nothing A link wanted) = many.Nothing (wanted_of wanted a b link)
by_numbers a b (notes.Nothing B link wanted) = many.Nothing (wanted_of wanted b a link)

-- the note of the event by its two hosts, with their numbers
pub record IsOfTwo (event : ManyEvent) (note : ManyNote) (m : Network) : Type 0 where
  pub two : Note
  pub noted : Noted (as_of_two event) two (between (ends_of event).0 (ends_of event).1 m)
  pub said : note ≡ by_numbers (ends_of event).0 (ends_of event).1 two

-- `Nothing` and the event, if a host is absent or the two of a message are the same
abbrev pub IfThere : Bool → ManyEvent → ManyNote → Network → Type 0
IfThere true event note m = IsOfTwo event note m
IfThere false event note m = note ≡ many.Nothing event

abbrev pub ManyNoted : ManyEvent → ManyNote → Network → Type 0
ManyNoted event note m = IfThere (are_there event m) event note m
