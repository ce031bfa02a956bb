-- Which links have a message to send, link by link (BBN 1822, section 3: at most one message of a link is
-- unanswered; NIC 8246, allocation). Nothing here searches, and the only order is that of the peers and
-- of the links.
use Rattle.std.specs.Prelude.{◌≡◌, ◌⊎◌, ◌<◌, ℕ, ◌==◌, Bool, true, false, ◌&&◌, nat_le, nat_lt, if◌then◌else◌, List, [], ◌∷◌, length, Option, None, Some}
use Rattle.ncp_slot.specs.declared.slot.Slot.TheVariants.{Empty, Ready, Travelling, Held}
use Rattle.ncp_slot.specs.Slots.{LinkSlot, HasSlot, slot_at}
use Rattle.ncp_model.specs.declared.pair.Pair.{Pair}
use Rattle.ncp_model.specs.Endpoint.{Endpoint, is_open}
use Rattle.ncp_model.specs.Texts.{bytes_to_send}
use Rattle.ncp_model.specs.Ends.{any, hears_link}
use Rattle.ncp_model.specs.Peers.{Peer}
use Rattle.ncp_peer.specs.PeerState.{PeerState, control_link}
use Rattle.ncp_peer.specs.Output.{output_on}

-- an open sending endpoint heard the link, and its counters admit one message and one whole byte of its
-- stored text
abbrev pub has_text : ℕ → Pair × Endpoint → Bool
has_text on p = hears_link on p && is_open p.1 && nat_le 1 (bytes_to_send p.1) && nat_le 1 p.1.messages

-- link 0: a command is queued; a data link: a connection has text
abbrev pub has_new : ℕ → Peer → Bool
has_new on p = if on == control_link then nat_lt 0 (length p.phase.waiting) else any (has_text on) p.ends

-- a message is to be sent again; or the slot is empty, and there is something new to send
abbrev pub is_ready_by : LinkSlot → ℕ → Peer → Bool
is_ready_by Empty on p = has_new on p
is_ready_by (Ready message) on p = true
is_ready_by (Travelling message) on p = false
is_ready_by (Held message) on p = false

abbrev pub is_link_ready : ℕ → PeerState → Bool
is_link_ready on s = is_ready_by (slot_at s.slots on) on s.peer

-- no link to a peer is ready; or a link is the first ready one
abbrev pub NoLinkReady : PeerState → Type 0
NoLinkReady s = (on : ℕ) → HasSlot on → is_link_ready on s ≡ false

pub record IsFirstLink (on : ℕ) (s : PeerState) : Type 0 where
  pub link : HasSlot on
  pub ready : is_link_ready on s ≡ true
  pub first : (lower : ℕ) → lower < on → HasSlot lower → is_link_ready lower s ≡ false

-- the message on the first ready link to a peer
abbrev pub IsMessageTo : ℕ × PeerState → List Bool → Type 0
IsMessageTo p message = (on : ℕ) × IsFirstLink on p.1 × (output_on p.0 on p.1 ≡ Some message)

-- what is sent next: nothing, if no link to any peer is ready; else the message to the first peer, in the
-- order in which they were given, with a ready link
abbrev pub IsNext : Option (List Bool) → List (ℕ × PeerState) → Type 0
IsNext None [] = Unit {0}
IsNext None (p ∷ ps) = NoLinkReady p.1 × IsNext None ps
IsNext (Some message) [] = ⊥
IsNext (Some message) (p ∷ ps) = IsMessageTo p message ⊎ (NoLinkReady p.1 × IsNext (Some message) ps)
