-- Two hosts, each with the other as its peer, and the subnet between them, at the level of bits. Each
-- step is defined once, for "this host", the sender, and "that host". The code's `World` is `Noted_world`
-- (Transcript); `seen` (Seen) maps it to these terms.
use Rattle.std.specs.Prelude.{ℕ, Bool, List, [], ◌∷◌, Option, None, Some, Result, Ok, Err}
use Rattle.ncp_leader.specs.declared.leader.Leader.{Leader}
use Rattle.ncp_leader.specs.declared.leader.Short.{Short}
use Rattle.ncp_leader.specs.Leader.{leader_in}
use Rattle.ncp_wire.specs.declared.answer.Answer.{Answer}
use Rattle.ncp_wire.specs.declared.answer.Answer.TheVariants.{Rfnm, Incomplete}
use Rattle.ncp_wire.specs.declared.answer.Answer.TheVariants as answer_kinds
use Rattle.ncp_model.specs.Peers.{reply}
use Rattle.ncp_proof_machine.specs.Resets.{Party, This, That}
use Rattle.ncp_peer.specs.declared.received.Received.{Received}
use Rattle.ncp_peer.specs.declared.received.Received.TheVariants as cases
use Rattle.ncp_peer.specs.PeerState.{PeerState}
use Rattle.ncp_peer.specs.PeerState as states
use Rattle.ncp_peer.specs.Hearing.{rfnm, incomplete, destination_dead, after_bits, received_of}
use Rattle.ncp_peer.specs.Output.{next_of, after_output}
use Rattle.ncp_transcript.specs.Asked.{Asked, Reply, state_after_asked, reply_to}
use Rattle.ncp_transcript_two.specs.Subnet.{Holds, Free, Accepted, Delivered, Lost, Dead, TransitByLink, set_at, link_in, from_host, answer_bits}

pub record World : Type 0 where
  pub here : ℕ  -- this host's number
  pub there : ℕ  -- that host's number
  pub this : PeerState
  pub that : PeerState
  pub going : TransitByLink  -- from this host to that one
  pub coming : TransitByLink

abbrev pub swap : World → World
swap w = record { here = w.there; there = w.here; this = w.that; that = w.this; going = w.coming; coming = w.going }

-- Bits arrive at a host from its peer.

abbrev pub state_after_with : Result Leader Short → List Bool → PeerState → PeerState
state_after_with (Err short) bits s = s
state_after_with (Ok leader) bits s = after_bits leader bits s

abbrev pub state_received_with : Result Leader Short → List Bool → PeerState → Received
state_received_with (Err short) bits s = cases.Short
state_received_with (Ok leader) bits s = received_of leader bits s

abbrev pub state_after_received : List Bool → PeerState → PeerState
state_after_received bits s = state_after_with (leader_in bits) bits s

abbrev pub received : List Bool → PeerState → Received
received bits s = state_received_with (leader_in bits) bits s

-- Events.

pub data WorldStep : Type 0 where
  Call_is_made : (asked : Asked) → WorldStep
  Goes_out : WorldStep
  Is_delivered : (on : ℕ) → WorldStep  -- the message of this host on a link
  Is_lost : (on : ℕ) → WorldStep
  Finds_dead : (on : ℕ) → WorldStep  -- it finds its destination dead
  Is_answered : (on : ℕ) → WorldStep

pub record WorldEvent : Type 0 where
  pub side : Party
  pub step : WorldStep

-- the note of an event
pub data NoteBody : Type 0 where
  Called : (asked : Asked) → (reply : Reply) → NoteBody
  Out : (message : List Bool) → NoteBody
  In : (on : ℕ) → (message : List Bool) → (received : Received) → NoteBody  -- the message arrives at that host
  Went_lost : (on : ℕ) → NoteBody
  Went_dead : (on : ℕ) → NoteBody
  Answered : (on : ℕ) → (how : Answer) → (received : Received) → NoteBody
  Nothing : NoteBody

pub record WorldNote : Type 0 where
  pub side : Party  -- of the sender
  pub told : NoteBody

abbrev pub goes : Option (ℕ × List Bool) → World → World × NoteBody
goes None w = (w, Nothing)
goes (Some out) w = (record w { this = after_output out.0 out.1 w.this; going = set_at (link_in out.1) (Accepted out.1) w.going }, Out out.1)

abbrev pub world_delivered : ℕ → List Bool → World → World × NoteBody
world_delivered on m w = (record w { that = state_after_received m w.that; going = set_at on Delivered w.going }, In on m (received m w.that))

abbrev pub delivers : ℕ → Holds → World → World × NoteBody
delivers on (Accepted m) w = world_delivered on (from_host w.here m) w
delivers on holds w = (w, Nothing)

abbrev pub loses : ℕ → Holds → World → World × NoteBody
loses on (Accepted m) w = (record w { going = set_at on Lost w.going }, Went_lost on)
loses on holds w = (w, Nothing)

abbrev pub dies : ℕ → Holds → World → World × NoteBody
dies on (Accepted m) w = (record w { going = set_at on Dead w.going }, Went_dead on)
dies on holds w = (w, Nothing)

abbrev pub world_answers : ℕ → Answer → List Bool → World → World × NoteBody
world_answers on how bits w = (record w { this = state_after_received bits w.this; going = set_at on Free w.going }, Answered on how (received bits w.this))

abbrev pub answers_for : ℕ → Holds → World → World × NoteBody
answers_for on Delivered w = world_answers on Rfnm (answer_bits rfnm w.there on) w
answers_for on Lost w = world_answers on Incomplete (answer_bits incomplete w.there on) w
answers_for on Dead w = world_answers on answer_kinds.Dead (answer_bits destination_dead w.there on) w
answers_for on holds w = (w, Nothing)

abbrev pub moves : WorldStep → World → World × NoteBody
moves (Call_is_made asked) w = (record w { this = state_after_asked asked w.this }, Called asked (reply_to asked w.this))
moves Goes_out w = goes (next_of w.there w.this) w
moves (Is_delivered on) w = delivers on (w.going on) w
moves (Is_lost on) w = loses on (w.going on) w
moves (Finds_dead on) w = dies on (w.going on) w
moves (Is_answered on) w = answers_for on (w.going on) w

abbrev pub turned_back : World × NoteBody → World × NoteBody
turned_back did = (swap did.0, did.1)

abbrev pub at : Party → WorldStep → World → World × NoteBody
at This step w = moves step w
at That step w = turned_back (moves step (swap w))

abbrev pub step : WorldEvent → World → World × WorldNote
step e w = ((at e.side e.step w).0, record { side = e.side; told = (at e.side e.step w).1 })

-- a whole run, and its transcript

abbrev pub world_run_from : List WorldEvent → World → World
world_run_from [] w = w
world_run_from (e ∷ es) w = world_run_from es (step e w).0

abbrev pub notes_from : List WorldEvent → World → List WorldNote
notes_from [] w = []
notes_from (e ∷ es) w = (step e w).1 ∷ notes_from es (step e w).0
