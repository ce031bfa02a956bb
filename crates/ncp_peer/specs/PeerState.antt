-- The state of a host for one peer: what it keeps of the peer, the slots of the links, and the counts.
use Rattle.std.specs.Prelude.{ℕ, Bool, ◌==◌, if◌then◌else◌}
use Rattle.ncp_wire.specs.declared.answer.Answer.{Answer}
use Rattle.ncp_wire.specs.declared.answer.Answer.TheVariants.{Rfnm, Incomplete, Dead}
use Rattle.ncp_slot.specs.Slot.{answered, is_travelling}
use Rattle.ncp_slot.specs.Slots.{LinkSlots, slot_at, with_slot, all_woken, no_slots, is_quiet}
use Rattle.ncp_model.specs.declared.pair.Pair.{Pair}
use Rattle.ncp_model.specs.Peers.{Peer, PairCall, new_peer}
use Rattle.ncp_model.specs.Peers as peers
use Rattle.ncp_peer.specs.declared.counts.Counts.{Counts}
use Rattle.ncp_peer.specs.Counting.{one_more, no_counts}

pub record PeerState : Type 0 where
  pub peer : Peer
  pub slots : LinkSlots
  pub counts : Counts

-- a new peer is down, has no connections and no messages on its links, and its counts are 0
abbrev pub new_state : PeerState
new_state = record { peer = new_peer; slots = no_slots; counts = no_counts }

-- the state after a call of a user

abbrev pub state_calls : Pair → PairCall → PeerState → PeerState
state_calls pair call s = record s { peer = peers.calls pair call s.peer }

abbrev pub state_calls_echo : ℕ → PeerState → PeerState
state_calls_echo byte s = record s { peer = peers.calls_echo byte s.peer }

abbrev pub state_calls_reset : PeerState → PeerState
state_calls_reset s = record s { peer = peers.calls_reset (is_quiet s.slots) s.peer }

-- the messages held for a dead destination become ready to be sent again (this profile's rule)
abbrev pub state_calls_wake : PeerState → PeerState
state_calls_wake s = record s { slots = all_woken s.slots }

-- The answer to the message that was sent on a link (BBN 1822, section 3). An RFNM for a text frees its
-- sender, and after an RFNM on any link the host settles. A message that was not delivered is sent again,
-- or is held. An answer to no message is stray, and counted.

abbrev pub control_link : ℕ
control_link = 0

abbrev pub frees_on : ℕ → Peer → Peer
frees_on on p = if on == control_link then p else peers.frees on p

abbrev pub after_answer : ℕ → Answer → LinkSlots → Peer → Peer
after_answer on Rfnm slots p = peers.settles (is_quiet slots) (frees_on on p)
after_answer on Incomplete slots p = p
after_answer on Dead slots p = p

abbrev pub is_answered : ℕ → PeerState → Bool
is_answered on s = is_travelling (slot_at s.slots on)

abbrev pub answer_taken : ℕ → Answer → PeerState → PeerState
answer_taken on how s =
    let slots : LinkSlots = with_slot s.slots on (answered how (slot_at s.slots on)) in
    record s { slots = slots; peer = after_answer on how slots s.peer }

abbrev pub answer_comes : ℕ → Answer → PeerState → PeerState
answer_comes on how s =
    if is_answered on s then answer_taken on how s else record s { counts = record s.counts { stray = one_more s.counts.stray } }
