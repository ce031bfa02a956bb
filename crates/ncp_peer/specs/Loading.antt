-- What holds of the state of every peer, so that the bytes saved of it are read again: the limits of its
-- parts, and that it is well. And the pieces in which it is read.
use Rattle.std.specs.Prelude.{◌≡◌, ◌≤◌, ℕ, Bool, false, List, [], ◌∷◌, ◌++◌, All, length, IfSome}
use Rattle.std.specs.FinMap.{entries}
use Rattle.ncp_bits.specs.declared.bits.TheConstants.{MAX_BITS}
use Rattle.ncp_slot.specs.Slot.{kept_message}
use Rattle.ncp_slot.specs.Slots.{LinkSlot, LinkSlots, slot_at}
use Rattle.ncp_slot.specs.Links.{HasItsLinks}
use Rattle.ncp_model.specs.declared.limits.TheConstants.{MAX_OWN, MAX_BY_PEER, MAX_ERRORS}
use Rattle.ncp_model.specs.Phase.{up}
use Rattle.ncp_model.specs.Echo.{Echoes}
use Rattle.ncp_model.specs.Endpoint.{Endpoint}
use Rattle.ncp_model.specs.Ends.{Ends, count, has_asked, is_by_peer, hears_link, uses_link, no_ends}
use Rattle.ncp_model.specs.Peers.{Peer}
use Rattle.ncp_conn.specs.declared.record.Role.{Role}
use Rattle.ncp_conn.specs.declared.record.Record.{Record}
use Rattle.ncp_conn.specs.Restoring.{IsPossible}
use Rattle.ncp_saved.specs.Values.{mark, two_bytes, four_bytes}
use Rattle.ncp_saved.specs.Reading.{HasItsData}
use Rattle.ncp_phase.specs.declared.flags.Flags.{Flags}
use Rattle.ncp_phase.specs.Waiting.{QueueFits}
use Rattle.ncp_phase.specs.Restoring.{HasAllData}
use Rattle.ncp_peer.specs.PeerState.{PeerState}
use Rattle.ncp_peer.specs.Soundness.{IsWell}

-- four flags; three numbers; a link, a byte size, and a number of messages; the flags of a phase
abbrev pub marks_saved : Bool × Bool × Bool × Bool → List ℕ
marks_saved m = mark m.0 ∷ mark m.1 ∷ mark m.2 ∷ mark m.3 ∷ []

abbrev pub three_saved : ℕ × ℕ × ℕ → List ℕ
three_saved n = four_bytes n.0 ++ four_bytes n.1 ++ four_bytes n.2

abbrev pub way_saved : ℕ × ℕ × ℕ → List ℕ
way_saved w = w.0 ∷ w.1 ∷ two_bytes w.2

abbrev pub flags_saved : Flags → List ℕ
flags_saved f = mark f.down ∷ mark f.want ∷ mark f.owe ∷ mark f.wait ∷ []

-- the record of an endpoint without its stored bits
abbrev pub record_unstored : Role → Endpoint → Record
record_unstored end e = record {
  end = end;
  asked = e.asked;
  heard = e.heard;
  opened = e.opened;
  leaving = e.leaving;
  left = e.left;
  cls = e.cls;
  link = e.link;
  size = e.size;
  messages = e.messages;
  bits = e.bits;
  stored = 0;
  busy = e.busy;
  recall = e.recall;
  interrupts = e.interrupts;
}

-- the endpoints keep the limits of a table
pub record CanStand (m : Ends) : Type 0 where
  pub own : count has_asked m ≤ MAX_OWN
  pub by_peer : count is_by_peer m ≤ MAX_BY_PEER
  pub hears : (on : ℕ) → count (hears_link on) m ≤ 1
  pub uses : (on : ℕ) → count (uses_link on) m ≤ 1
  pub each : All IsPossible (entries m)

-- the errors are few, and each has all bytes of its data
pub record FitEchoes (s : Echoes) : Type 0 where
  pub few : length s.errors ≤ MAX_ERRORS
  pub whole : All HasAllData s.errors

-- the phase, the endpoints and the echoes; while the peer is down there are no endpoints
pub record FitPeer (p : Peer) : Type 0 where
  pub queue : QueueFits p.phase
  pub bytes : All HasItsData p.phase.waiting
  pub ends : CanStand p.ends
  pub down : up p.phase ≡ false → p.ends ≡ no_ends
  pub echoes : FitEchoes p.echoes

-- a message of a slot has at most `MAX_BITS` bits
abbrev pub IsSmall : LinkSlot → Type 0
IsSmall slot = IfSome (kept_message slot) (λ message. length message ≤ MAX_BITS)

-- the slots are of exactly the links that have one
pub record FitSlots (slots : LinkSlots) : Type 0 where
  pub links : HasItsLinks slots
  pub small : (on : ℕ) → IsSmall (slot_at slots on)

-- the state of a peer keeps its limits
pub record FitsIn (s : PeerState) : Type 0 where
  pub peer : FitPeer s.peer
  pub slots : FitSlots s.slots
  pub well : IsWell s
