-- The calls of a user at the state of one peer: the reply of each, and the state after it.
use Rattle.std.specs.Prelude.{◌≡◌, ◌⊎◌, ℕ, Bool, List, slice_get, Option, None, Some, Result, Ok, Err}
use Rattle.ncp_wire.specs.declared.command.Command.{Command}
use Rattle.ncp_slot.specs.Slot.{kept_message}
use Rattle.ncp_slot.specs.Slots.{slot_at}
use Rattle.ncp_model.specs.declared.pair.Pair.{Pair}
use Rattle.ncp_model.specs.declared.call_fault.CallFault.{CallFault}
use Rattle.ncp_model.specs.declared.call_fault.CallFault.TheVariants.{NoEntry, OutOfMemory}
use Rattle.ncp_model.specs.Peers.{PairCall, comes_of, reply}
use Rattle.ncp_conn.specs.declared.record.Record.{Record}
use Rattle.ncp_peer.specs.PeerState.{PeerState, state_calls}

-- A call that allocates does all of its work, or on allocation failure none. `OutOfMemory` is the last
-- refusal: it is returned only if no other applies.
abbrev pub DoneOrNoMemory : {A : Type 0} → Result (Unit {0}) CallFault → A → Result (Unit {0}) CallFault → A → A → Type 0
DoneOrNoMemory reply after result before now =
    ((result ≡ reply) × (now ≡ after)) ⊎ ((result ≡ Err OutOfMemory) × (reply ≡ Ok tt) × (now ≡ before))

-- A reader changes nothing, and is answered in any phase.

abbrev pub record_answer : Option Record → Result Record CallFault
record_answer None = Err NoEntry
record_answer (Some r) = Ok r

-- the command at an index of the queue, if the host has the peer and the queue is that long
abbrev pub waiting_at : Option PeerState → ℕ → Option Command
waiting_at None place = None
waiting_at (Some s) place = slice_get s.peer.phase.waiting place

-- the message on a link that is not taken yet, if the host has the peer and there is one
abbrev pub kept_for : Option PeerState → ℕ → Option (List Bool)
kept_for None on = None
kept_for (Some s) on = kept_message (slot_at s.slots on)

abbrev pub room_answer : Option ℕ → Result ℕ CallFault
room_answer None = Err NoEntry
room_answer (Some room) = Ok room

abbrev pub StateAsksOrNoMemory : Pair → PairCall → Result (Unit {0}) CallFault → PeerState → PeerState → Type 0
StateAsksOrNoMemory pair call result before now =
    DoneOrNoMemory (reply (comes_of pair call before.peer)) (state_calls pair call before) result before now
