-- The hosts and the subnet of a world as the rules see them, and the notes in terms of the rules.
use Rattle.std.specs.Prelude.{ℕ, List, [], ◌∷◌, ◌++◌, Option, None, Some, Ok}
use Rattle.ncp_model.specs.Peers.{Take}
use Rattle.ncp_proof_machine.specs.Resets.{This, That}
use Rattle.ncp_proof_machine.specs.Resets as rules
use Rattle.ncp_peer.specs.PeerState.{PeerState, new_state}
use Rattle.ncp_host.specs.Host.{Host, state_of}
use Rattle.ncp_subnet.specs.Subnet.{transit_at}
use Rattle.ncp_transcript.specs.declared.call.Call.{Call}
use Rattle.ncp_transcript.specs.declared.note.HostNote.{HostNote}
use Rattle.ncp_transcript.specs.declared.note.HostNote.TheVariants as of_host
use Rattle.ncp_transcript.specs.Asked.{Asked, Asks, Replied, Took, asked_in}
use Rattle.ncp_transcript_two.specs.World.{World, NoteBody, Called, Out, In, Went_lost, Went_dead, Answered, Nothing}
use Rattle.ncp_transcript_two.specs.World as worlds
use Rattle.ncp_transcript_two.specs.Tie.{IsAsked}
use Rattle.ncp_transcript_two.specs.Watch.{Both}
use Rattle.ncp_transcript_two.specs.Watch as watch
use Rattle.ncp_transcript_two.specs.declared.side.Side.{Side}
use Rattle.ncp_transcript_two.specs.declared.side.Side.TheVariants.{A, B}
use Rattle.ncp_transcript_two.specs.declared.note.Note.{Note}
use Rattle.ncp_transcript_two.specs.declared.note.Note.TheVariants as notes
use Rattle.ncp_transcript_two.specs.Between.{Hosts, hosts_after_note}

abbrev pub state_or_new : Option PeerState → PeerState
state_or_new None = new_state
state_or_new (Some s) = s

-- a host's state for the host with this number
abbrev pub had_for : ℕ → Host → PeerState
had_for number h = state_or_new (state_of h number)

-- side A is this host, and side B that host
abbrev pub seen : Hosts → World
seen w = record {
  here = w.number_a;
  there = w.number_b;
  this = had_for w.number_b w.a;
  that = had_for w.number_a w.b;
  going = λ on. transit_at w.subnet w.number_a w.number_b on;
  coming = λ on. transit_at w.subnet w.number_b w.number_a on;
}

abbrev pub as_rules : Side → rules.Party
as_rules A = This
as_rules B = That

-- The body of a note, in terms of the rules. A refused call changed nothing, and neither did a read.

abbrev pub done : Option (ℕ × Asked) → Option NoteBody
done None = None
done (Some (peer, asked)) = Some (Called asked (Replied (Ok tt)))

abbrev pub call_body : HostNote → Option NoteBody
call_body (of_host.Done call) = done (asked_in call)
call_body (of_host.Took peer pair bytes text) = Some (Called (Asks pair (Take bytes)) (Took (Ok text)))
call_body other = None

abbrev pub body_out : HostNote → NoteBody
body_out (of_host.Out message) = Out message
body_out other = Nothing

abbrev pub body_in : ℕ → HostNote → Option NoteBody
body_in link (of_host.In message received) = Some (In link message received)
body_in link other = None

abbrev pub answer_body : ℕ → HostNote → Option NoteBody
answer_body link (of_host.Answered peer on answer received) = Some (Answered on answer received)
answer_body link other = None

abbrev pub body_of : Note → Option NoteBody
body_of (notes.Called side note) = call_body note
body_of (notes.Out side note) = Some (body_out note)
body_of (notes.Came side link note) = body_in link note
body_of (notes.Lost side link) = Some (Went_lost link)
body_of (notes.FoundDead side link) = Some (Went_dead link)
body_of (notes.Answered side link note) = answer_body link note
body_of (notes.Nothing side link wanted) = Some Nothing

abbrev pub side_of : Note → Side
side_of (notes.Called side note) = side
side_of (notes.Out side note) = side
side_of (notes.Came side link note) = side
side_of (notes.Lost side link) = side
side_of (notes.FoundDead side link) = side
side_of (notes.Answered side link note) = side
side_of (notes.Nothing side link wanted) = side

abbrev pub notes_of : rules.Party → Option NoteBody → List worlds.WorldNote
notes_of side None = []
notes_of side (Some told) = record { side = side; told = told } ∷ []

-- a transcript in terms of the rules
abbrev pub told : List Note → List worlds.WorldNote
told [] = []
told (note ∷ rest) = notes_of (as_rules (side_of note)) (body_of note) ++ told rest

-- the histories after the body of a note, if it has one
abbrev pub watched : rules.Party → Option NoteBody → World → Both → Both
watched side None v p = p
watched side (Some told) v p = watch.histories_after_note side told v p

abbrev pub histories : List Note → Hosts → Both → Both
histories [] w p = p
histories (note ∷ rest) w p = histories rest (hosts_after_note note w) (watched (as_rules (side_of note)) (body_of note) (seen w) p)

-- the numbers of a call fit the fields of commands
abbrev pub NoteFits : Option NoteBody → Type 0
NoteFits (Some (Called asked reply)) = IsAsked asked
NoteFits other = Unit {0}

-- those of this call do
abbrev pub CallFits : Call → Type 0
CallFits call = NoteFits (done (asked_in call))
