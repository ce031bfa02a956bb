-- An invariant of the state of a host for each peer. Each part can be decided over the endpoints, the
-- slots and the queued commands, so a state read from bytes can be checked for it.
use Rattle.std.specs.Prelude.{◌≡◌, ℕ, Bool, true, false, List, [], ◌∷◌, All, Option, None, Some}
use Rattle.std.specs.FinMap.{get}
use Rattle.ncp_slot.specs.Slot.{is_empty}
use Rattle.ncp_slot.specs.Slots.{LinkSlots, slot_at}
use Rattle.ncp_model.specs.declared.pair.Pair.{Pair}
use Rattle.ncp_model.specs.Endpoint.{Endpoint}
use Rattle.ncp_model.specs.Ends.{Ends, hears_link, no_ends, pair_of, sender_on}
use Rattle.ncp_model.specs.Demux.{passes}
use Rattle.ncp_model.specs.Phase.{up}
use Rattle.ncp_model.specs.Peers.{Peer}
use Rattle.ncp_peer.specs.PeerState.{PeerState}
use Rattle.ncp_phase.specs.Waiting.{IsShort}

-- the endpoint has an unacknowledged text
abbrev pub is_end_busy : Option Endpoint → Bool
is_end_busy None = false
is_end_busy (Some e) = e.busy

-- the endpoint of a pair sends, and heard the link
abbrev pub pair_hears_link : ℕ → Pair → Ends → Bool
pair_hears_link on p m = passes (hears_link on) p (get m p)

-- the slot of the link that a pair's endpoint heard has a message
abbrev pub IsOut : Ends → LinkSlots → Pair → Type 0
IsOut m slots p = (on : ℕ) × ((on ≡ 0) → ⊥) × (pair_hears_link on p m ≡ true) × (is_empty (slot_at slots on) ≡ false)

-- no two sending endpoints heard the same link, and an unacknowledged text has a message in the slot of
-- its link
pub record Agree (m : Ends) (slots : LinkSlots) : Type 0 where
  pub one : (on : ℕ) (p q : Pair) → pair_hears_link on p m ≡ true → pair_hears_link on q m ≡ true → p ≡ q
  pub out : (p : Pair) → is_end_busy (get m p) ≡ true → IsOut m slots p

-- and while the host is not up with the peer it has no endpoints
pub record SoundPeer (p : Peer) (slots : LinkSlots) : Type 0 where
  pub ends : Agree p.ends slots
  pub down : up p.phase ≡ false → p.ends ≡ no_ends

abbrev pub IsSound : PeerState → Type 0
IsSound s = SoundPeer s.peer s.slots

-- each queued command fits a control message, so the first of them is sent with the next one
abbrev pub IsFit : PeerState → Type 0
IsFit s = All IsShort s.peer.phase.waiting

abbrev pub IsWell : PeerState → Type 0
IsWell s = IsSound s × IsFit s

-- the states of all peers
abbrev pub AreWell : List (ℕ × PeerState) → Type 0
AreWell [] = Unit {0}
AreWell (p ∷ ps) = IsWell p.1 × AreWell ps

-- the link that a pair's endpoint heard identifies it alone, and an unacknowledged text has a message in
-- the slot of its link
pub record IsPlaced (m : Ends) (slots : LinkSlots) (p : Pair) : Type 0 where
  pub alone : (on : ℕ) → pair_hears_link on p m ≡ true → pair_of (sender_on on m) ≡ Some p
  pub out : is_end_busy (get m p) ≡ true → IsOut m slots p
