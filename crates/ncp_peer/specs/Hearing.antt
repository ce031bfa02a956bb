-- The effect of a regular message from a peer, case by case in the order of the checks (NIC 8246, message
-- form; the order and the counts are this profile's).
use Rattle.std.specs.Prelude.{ℕ, ◌==◌, Bool, ◌||◌, nat_lt, if◌then◌else◌, List, [], ◌∷◌, length, take, Option, None, Some, Result, Ok, Err}
use Rattle.ncp_numbers.specs.Bytes.{bytes_of}
use Rattle.ncp_leader.specs.declared.leader.Leader.{Leader}
use Rattle.ncp_leader.specs.declared.kinds.TheConstants.{REGULAR, RFNM, DESTINATION_DEAD, INCOMPLETE}
use Rattle.ncp_leader.specs.declared.regular.TheConstants.{FRONT_BITS}
use Rattle.ncp_leader.specs.declared.fault.MessageFault.{MessageFault}
use Rattle.ncp_leader.specs.Message.{Message, message_in}
use Rattle.ncp_wire.specs.declared.command.Command.{Command}
use Rattle.ncp_wire.specs.declared.fault.CommandFault.{CommandFault}
use Rattle.ncp_control.specs.Reading.{commands_in, fault_in}
use Rattle.ncp_wire.specs.declared.answer.Answer.{Answer}
use Rattle.ncp_wire.specs.declared.answer.Answer.TheVariants.{Rfnm, Incomplete, Dead}
use Rattle.ncp_slot.specs.Slots.{is_quiet}
use Rattle.ncp_wire.specs.declared.links.TheConstants.{LAST_LINK}
use Rattle.ncp_model.specs.declared.outcomes.Took.{Took}
use Rattle.ncp_model.specs.Effect.{answer}
use Rattle.ncp_model.specs.Ends.{text_in}
use Rattle.ncp_model.specs.Phase.{up}
use Rattle.ncp_model.specs.Peers as peers
use Rattle.ncp_peer.specs.declared.received.Received.{Received}
use Rattle.ncp_peer.specs.declared.received.Received.TheVariants as received
use Rattle.ncp_peer.specs.Counting.{one_more, counts_after, counts_after_fault, counts_of_text}
use Rattle.ncp_peer.specs.PeerState.{PeerState, control_link, is_answered, answer_comes}

-- A control text: its commands in order, and then its fault.

abbrev pub state_hears : Command → PeerState → PeerState
state_hears c s = record s { peer = peers.hears (is_quiet s.slots) c s.peer; counts = counts_after c s.peer s.counts }

abbrev pub state_hears_all : List Command → PeerState → PeerState
state_hears_all [] s = s
state_hears_all (c ∷ cs) s = state_hears_all cs (state_hears c s)

abbrev pub state_hears_fault : CommandFault → PeerState → PeerState
state_hears_fault fault s = record s { peer = peers.hears_fault fault s.peer; counts = counts_after_fault s.peer s.counts }

abbrev pub hears_last : Option CommandFault → PeerState → PeerState
hears_last None s = s
hears_last (Some fault) s = state_hears_fault fault s

abbrev pub state_hears_text : List Command → Option CommandFault → PeerState → PeerState
state_hears_text cs fault s = hears_last fault (state_hears_all cs s)

-- the byte size of a control text
abbrev pub control_size : ℕ
control_size = 8

abbrev pub state_after_control : Message → PeerState → PeerState
state_after_control m s =
    if m.size == control_size
    then state_hears_text (commands_in (bytes_of m.text)) (fault_in (bytes_of m.text)) s
    else record s { counts = record s.counts { wrong_size = one_more s.counts.wrong_size } }

abbrev pub control_received : Message → Received
control_received m = if m.size == control_size then received.Control (length (commands_in (bytes_of m.text))) else received.WrongSize

-- A text on a data link.

abbrev pub took : ℕ → Message → PeerState → Took
took on m s = answer (text_in on m.size m.text s.peer.ends)

abbrev pub state_after_text : ℕ → List Bool → Message → PeerState → PeerState
state_after_text on head m s = record s {
  peer = peers.hears_text on head m.size m.text s.peer;
  counts = if up s.peer.phase then counts_of_text (took on m s) s.counts else record s.counts { not_up = one_more s.counts.not_up };
}

abbrev pub text_received : ℕ → Message → PeerState → Received
text_received on m s = if up s.peer.phase then received.Text (took on m s) else received.NotUp

-- link 1, and links over 71, carry nothing
abbrev pub is_wrong_link : ℕ → Bool
is_wrong_link on = on == 1 || nat_lt LAST_LINK on

-- A regular message, with the link of its leader.

abbrev pub message_after : ℕ → List Bool → Result Message MessageFault → PeerState → PeerState
message_after on bits (Err fault) s = record s { counts = record s.counts { faults = one_more s.counts.faults } }
message_after on bits (Ok m) s =
    if is_wrong_link on then record s { counts = record s.counts { wrong_link = one_more s.counts.wrong_link } }
    else if on == control_link then state_after_control m s
    else state_after_text on (take FRONT_BITS bits) m s

abbrev pub message_received : ℕ → Result Message MessageFault → PeerState → Received
message_received on (Err fault) s = received.Fault fault
message_received on (Ok m) s =
    if is_wrong_link on then received.WrongLink
    else if on == control_link then control_received m
    else text_received on m s

-- Receiving from a peer: a regular message, or the answer to one that was sent to it (BBN 1822, section
-- 3).

abbrev pub regular : ℕ
regular = REGULAR

abbrev pub rfnm : ℕ
rfnm = RFNM

abbrev pub destination_dead : ℕ
destination_dead = DESTINATION_DEAD

abbrev pub incomplete : ℕ
incomplete = INCOMPLETE

abbrev pub is_kind : ℕ → Bool
is_kind kind = kind == regular || kind == rfnm || kind == destination_dead || kind == incomplete

-- the answer in a leader of this type, given that it is an answer
abbrev pub answer_of : ℕ → Answer
answer_of kind = if kind == rfnm then Rfnm else if kind == destination_dead then Dead else Incomplete

abbrev pub answer_received : ℕ → PeerState → Received
answer_received on s = if is_answered on s then received.Answered else received.Stray

abbrev pub after_bits : Leader → List Bool → PeerState → PeerState
after_bits leader bits s = if leader.kind == regular then message_after leader.link bits (message_in bits) s else answer_comes leader.link (answer_of leader.kind) s

abbrev pub received_of : Leader → List Bool → PeerState → Received
received_of leader bits s = if leader.kind == regular then message_received leader.link (message_in bits) s else answer_received leader.link s
