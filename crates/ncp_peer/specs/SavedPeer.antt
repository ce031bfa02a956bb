-- The state of a host for one peer, as bytes of a saved host.
use Rattle.std.specs.Prelude.{◌≡◌, refl, ℕ, true, List, [], ◌∷◌, ◌++◌, map}
use Rattle.std.specs.List.{flat_map}
use Rattle.std.specs.FinMap.{entries}
use Rattle.ncp_numbers.specs.Numbers.{number_of}
use Rattle.ncp_numbers.specs.Bytes.{bytes_of, byte_of}
use Rattle.ncp_slot.specs.declared.slot.Slot.TheVariants.{Empty, Ready, Travelling, Held}
use Rattle.ncp_slot.specs.Slots.{LinkSlot, LinkSlots, HasSlot, slot_at}
use Rattle.ncp_model.specs.declared.pair.Pair.{Pair}
use Rattle.ncp_model.specs.Endpoint.{Endpoint, new_end}
use Rattle.ncp_model.specs.Ends.{Ends}
use Rattle.ncp_peer.specs.declared.counts.Counts.{Counts}
use Rattle.ncp_peer.specs.PeerState.{PeerState}
use Rattle.ncp_peer.specs.Output.{links}
use Rattle.ncp_saved.specs.Values.{two_bytes, four_bytes, mark, listed, bits_saved, pair_saved}
use Rattle.ncp_phase.specs.SavedPhase.{phase_saved, echoes_saved}

-- the record of its endpoint: the flags, the numbers, and the stored bits
unfoldable pub end_saved : Endpoint → List ℕ
end_saved e =
    map mark (e.asked ∷ e.heard ∷ e.opened ∷ e.leaving ∷ e.left ∷ e.cls ∷ e.busy ∷ e.recall ∷ [])
    ++ (e.link ∷ e.size ∷ two_bytes e.messages)
    ++ four_bytes e.bits ++ four_bytes e.room ++ four_bytes e.interrupts ++ bits_saved e.stored

unfoldable pub connection_saved : Pair × Endpoint → List ℕ
connection_saved p = pair_saved p.0 ++ end_saved p.1

-- the connections in the order of their sockets
abbrev pub ends_saved : Ends → List ℕ
ends_saved m = listed connection_saved (entries m)

-- the slot of a link, and the slots in the order of the links
unfoldable pub slot_saved : LinkSlot → List ℕ
slot_saved Empty = 0 ∷ []
slot_saved (Ready message) = 1 ∷ bits_saved message
slot_saved (Travelling message) = 2 ∷ bits_saved message
slot_saved (Held message) = 3 ∷ bits_saved message

abbrev pub slots_on : List ℕ → LinkSlots → List ℕ
slots_on ons slots = flat_map (λ on. slot_saved (slot_at slots on)) ons

abbrev pub slots_saved : LinkSlots → List ℕ
slots_saved slots = slots_on links slots

unfoldable pub counts_saved : Counts → List ℕ
counts_saved n =
    four_bytes n.stray ++ four_bytes n.faults ++ four_bytes n.wrong_link ++ four_bytes n.wrong_size
    ++ four_bytes n.not_up ++ four_bytes n.late ++ four_bytes n.over

-- the state of a peer: the flags and the queued commands, the connections, the echo and the errors, the
-- slots, and the counts
unfoldable pub state_saved : PeerState → List ℕ
state_saved s =
    phase_saved s.peer.phase ++ ends_saved s.peer.ends ++ echoes_saved s.peer.echoes ++ slots_saved s.slots ++ counts_saved s.counts

pub connection_by_hand :
    connection_saved (record { local = 3; remote = 2 }, record new_end { asked = true; link = 5; room = 258; stored = true ∷ [] })
    ≡ 0 ∷ 0 ∷ 0 ∷ 3 ∷ 0 ∷ 0 ∷ 0 ∷ 2
    ∷ 1 ∷ 0 ∷ 0 ∷ 0 ∷ 0 ∷ 0 ∷ 0 ∷ 0
    ∷ 5 ∷ 0 ∷ 0 ∷ 0
    ∷ 0 ∷ 0 ∷ 0 ∷ 0 ∷ 0 ∷ 0 ∷ 1 ∷ 2 ∷ 0 ∷ 0 ∷ 0 ∷ 0
    ∷ 0 ∷ 0 ∷ 0 ∷ 1 ∷ 128 ∷ []
unfolding connection_saved pair_saved end_saved bits_saved bytes_of byte_of number_of
connection_by_hand = refl

-- Two states that the saved bytes do not distinguish: all is the same except the slots of links that have
-- none, which no contract mentions.

pub record AreAlike (one other : PeerState) : Type 0 where
  pub peer : one.peer ≡ other.peer
  pub slots : (on : ℕ) → HasSlot on → slot_at one.slots on ≡ slot_at other.slots on
  pub counts : one.counts ≡ other.counts
