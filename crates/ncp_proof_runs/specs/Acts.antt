-- The events on the endpoint of a pair of sockets, in order, as the notes of a peer show them. A note
-- shows only part of the event and its outcome: of a control message, the number of commands it had. The
-- rest is read off the state before the note: the outcome and the commands made, but never the endpoint
-- after the event. A message received may cause several events on one pair. After each of its commands,
-- as after each call, the host may have gone down, which clears the pair too (NIC 8246, commands; the
-- outcomes are this profile's).
use Rattle.std.specs.Prelude.{◌≡◌, ℕ, ◌==◌, Bool, true, if◌then◌else◌, List, [], ◌∷◌, ◌++◌, take, Option, None, Some, Result, Ok, Err}
use Rattle.std.specs.FinMap.{get}
use Rattle.ncp_numbers.specs.Bytes.{bytes_of}
use Rattle.ncp_leader.specs.declared.leader.Leader.{Leader}
use Rattle.ncp_leader.specs.declared.leader.Short.{Short}
use Rattle.ncp_leader.specs.declared.fault.MessageFault.{MessageFault}
use Rattle.ncp_leader.specs.declared.regular.TheConstants.{FRONT_BITS}
use Rattle.ncp_leader.specs.Leader.{leader_in}
use Rattle.ncp_leader.specs.Message.{Message, message_in}
use Rattle.ncp_wire.specs.declared.command.Command.{Command}
use Rattle.ncp_wire.specs.declared.command.Command.TheVariants.{Rst, Rrp}
use Rattle.ncp_wire.specs.declared.fault.CommandFault.{CommandFault}
use Rattle.ncp_control.specs.Reading.{commands_in, fault_in}
use Rattle.ncp_slot.specs.declared.slot.Slot.TheVariants.{Empty, Ready, Travelling, Held}
use Rattle.ncp_wire.specs.declared.answer.Answer.{Answer}
use Rattle.ncp_wire.specs.declared.answer.Answer.TheVariants.{Rfnm, Incomplete, Dead}
use Rattle.ncp_slot.specs.Slots.{LinkSlot, slot_at, is_quiet}
use Rattle.ncp_model.specs.declared.pair.Pair.{Pair}
use Rattle.ncp_model.specs.Pairs.{same}
use Rattle.ncp_model.specs.Endpoint.{Endpoint}
use Rattle.ncp_model.specs.Texts
use Rattle.ncp_model.specs.Ends.{Ends, pair_of, receiver_on, sender_on, demux_command}
use Rattle.ncp_model.specs.EndpointEvents.{EndpointEvent, Outcome, Transition, Accepted, Text_comes, Text_goes_out, Is_answered, Is_cleared, happens}
use Rattle.ncp_model.specs.Demux.{suits, comes}
use Rattle.ncp_model.specs.Phase.{Phase, up, is_resetting}
use Rattle.ncp_model.specs.Sending.{is_full}
use Rattle.ncp_model.specs.Peers.{Peer, Take, called, PairCall, calls_up, echo_called, frees_up, hears_fault, hears_other, takes_text}
use Rattle.ncp_peer.specs.PeerState.{PeerState, new_state, control_link, is_answered}
use Rattle.ncp_peer.specs.Hearing.{control_size, is_wrong_link, state_hears, state_hears_all}
use Rattle.ncp_transcript.specs.declared.note.HostNote.{HostNote}
use Rattle.ncp_transcript.specs.Asked.{Asked, Asks, Asks_echo, Asks_reset, asked_in}
use Rattle.ncp_proof_runs.specs.Peers.{note_for}

-- an event on an endpoint, its outcome, and the commands made
pub record Acted : Type 0 where
  pub what : EndpointEvent
  pub outcome : Outcome
  pub made : List Command

abbrev pub acted : EndpointEvent → Transition → Acted
acted what did = record { what = what; outcome = did.outcome; made = did.made }

-- a clearing
abbrev pub was_cleared : Acted
was_cleared = record { what = Is_cleared; outcome = Accepted; made = [] }

-- an event on the pair that a look-up found, if it is this pair
abbrev pub act_at : Pair → Option Pair → Option EndpointEvent → Ends → List Acted
act_at pair (Some p) (Some what) m = if same pair p then acted what (happens pair what (get m pair)) ∷ [] else []
act_at pair p what m = []

-- a clearing, if the host is not up in this phase
abbrev pub gone_down : Phase → List Acted
gone_down q = if up q then [] else was_cleared ∷ []

-- The events of each call, while the host is up; an accepted reset clears.

abbrev pub acts_called : Pair → Pair → PairCall → PeerState → List Acted
acts_called pair p call s =
    if up s.peer.phase
    then act_at pair (Some p) (Some (called call (is_full s.peer.phase) s.peer.ends)) s.peer.ends ++ gone_down (calls_up p call s.peer).phase
    else []

abbrev pub acts_echoed : ℕ → PeerState → List Acted
acts_echoed byte s = if up s.peer.phase then gone_down (echo_called byte s.peer).phase else []

abbrev pub acts_reset : PeerState → List Acted
acts_reset s = if is_resetting s.peer.phase then [] else was_cleared ∷ []

abbrev pub acts_asked : Pair → Option (ℕ × Asked) → PeerState → List Acted
acts_asked pair (Some (peer, Asks p call)) s = acts_called pair p call s
acts_asked pair (Some (peer, Asks_echo byte)) s = acts_echoed byte s
acts_asked pair (Some (peer, Asks_reset)) s = acts_reset s
acts_asked pair other s = []

-- The events of each command received, and of the fault of a control text. An RST clears.

abbrev pub acts_heard_up : Bool → Pair → Command → Peer → List Acted
acts_heard_up quiet pair c p = act_at pair (demux_command c p.ends) (comes c p.ends) p.ends ++ gone_down (hears_other quiet c p).phase

abbrev pub acts_heard : Bool → Pair → Command → Peer → List Acted
acts_heard quiet pair Rst p = was_cleared ∷ []
acts_heard quiet pair Rrp p = []
acts_heard quiet pair c p = if up p.phase then acts_heard_up quiet pair c p else []

abbrev pub acts_heard_all : Pair → List Command → PeerState → List Acted
acts_heard_all pair [] s = []
acts_heard_all pair (c ∷ cs) s = acts_heard (is_quiet s.slots) pair c s.peer ++ acts_heard_all pair cs (state_hears c s)

abbrev pub acts_of_fault : Option CommandFault → Peer → List Acted
acts_of_fault None p = []
acts_of_fault (Some fault) p = if up p.phase then gone_down (hears_fault fault p).phase else []

abbrev pub acts_of_control : Pair → Message → PeerState → List Acted
acts_of_control pair m s =
    acts_heard_all pair (commands_in (bytes_of m.text)) s
    ++ acts_of_fault (fault_in (bytes_of m.text)) (state_hears_all (commands_in (bytes_of m.text)) s).peer

-- The events of each message received.

abbrev pub acts_of_text : Pair → ℕ → List Bool → Message → Peer → List Acted
acts_of_text pair on head m p =
    if up p.phase
    then act_at pair (pair_of (receiver_on on p.ends)) (Some (Text_comes head m.size m.text)) p.ends ++ gone_down (takes_text on head m.size m.text p).phase
    else []

abbrev pub acts_of_message : Pair → ℕ → List Bool → Result Message MessageFault → PeerState → List Acted
acts_of_message pair on bits (Err fault) s = []
acts_of_message pair on bits (Ok m) s =
    if is_wrong_link on then []
    else if on == control_link then (if m.size == control_size then acts_of_control pair m s else [])
    else acts_of_text pair on (take FRONT_BITS bits) m s.peer

abbrev pub acts_of_bits : Pair → Result Leader Short → List Bool → PeerState → List Acted
acts_of_bits pair (Err short) bits s = []
acts_of_bits pair (Ok leader) bits s = acts_of_message pair leader.link bits (message_in bits) s

-- The events of each text sent on an empty link, and of each text acknowledged.

abbrev pub acts_of_new : Pair → ℕ → Peer → List Acted
acts_of_new pair on p = if on == control_link then [] else act_at pair (pair_of (sender_on on p.ends)) (Some Text_goes_out) p.ends

abbrev pub acts_of_output : Pair → LinkSlot → ℕ → Peer → List Acted
acts_of_output pair Empty on p = acts_of_new pair on p
acts_of_output pair (Ready message) on p = []
acts_of_output pair (Travelling message) on p = []
acts_of_output pair (Held message) on p = []

abbrev pub acts_of_out : Pair → Result Leader Short → PeerState → List Acted
acts_of_out pair (Err short) s = []
acts_of_out pair (Ok leader) s = acts_of_output pair (slot_at s.slots leader.link) leader.link s.peer

abbrev pub acts_of_freeing : Pair → ℕ → Peer → List Acted
acts_of_freeing pair on p =
    if up p.phase
    then act_at pair (pair_of (sender_on on p.ends)) (Some (Is_answered Texts.Rfnm)) p.ends ++ gone_down (frees_up on p).phase
    else []

abbrev pub acts_of_answer : Pair → ℕ → Answer → Peer → List Acted
acts_of_answer pair on Rfnm p = if on == control_link then [] else acts_of_freeing pair on p
acts_of_answer pair on Incomplete p = []
acts_of_answer pair on Dead p = []

abbrev pub acts_answered : Pair → ℕ → Answer → PeerState → List Acted
acts_answered pair on how s = if is_answered on s then acts_of_answer pair on how s.peer else []

-- The events of each note, in order.

abbrev pub acts_by : Pair → HostNote → PeerState → List Acted
acts_by pair (HostNote.Done call) s = acts_asked pair (asked_in call) s
acts_by pair (HostNote.Took peer p bytes text) s = acts_called pair p (Take bytes) s
acts_by pair (HostNote.Out message) s = acts_of_out pair (leader_in message) s
acts_by pair (HostNote.In message told) s = acts_of_bits pair (leader_in message) message s
acts_by pair (HostNote.Answered peer link how told) s = acts_answered pair link how s
acts_by pair other s = []

abbrev pub acts_from : Pair → List HostNote → PeerState → List Acted
acts_from pair [] s = []
acts_from pair (note ∷ rest) s = acts_by pair note s ++ acts_from pair rest (note_for note s)

-- the events of all notes of a peer
abbrev pub acts_of : Pair → List HostNote → List Acted
acts_of pair all = acts_from pair all new_state

-- Events that follow the rules: each is of a kind that the pair admits, and has the outcome and makes the
-- commands that the rules define at the endpoint before it; together they lead from one endpoint to the
-- other.
abbrev pub AreActs : Pair → Option Endpoint → List Acted → Option Endpoint → Type 0
AreActs pair before [] after = after ≡ before
AreActs pair before (act ∷ more) after =
    (suits pair act.what ≡ true) × (act ≡ acted act.what (happens pair act.what before)) × AreActs pair (happens pair act.what before).after more after
