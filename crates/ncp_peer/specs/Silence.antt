-- The links to a peer on which no message is ready, used in the contracts of private functions.
use Rattle.std.specs.Prelude.{◌≡◌, ◌<◌, ◌≤◌, min, ℕ, true, false, Option, None, Some}
use Rattle.ncp_wire.specs.declared.links.TheConstants.{FIRST_LINK, LAST_LINK}
use Rattle.ncp_slot.specs.Slot.{is_empty, is_ready}
use Rattle.ncp_slot.specs.Slots.{LinkSlots, slot_at}
use Rattle.ncp_conn.specs.Links.{is_in}
use Rattle.ncp_peer.specs.PeerState.{PeerState}
use Rattle.ncp_peer.specs.Output.{output_on}

-- each link with a message to be sent again is in a set
abbrev pub HasReady : ℕ → LinkSlots → Type 0
HasReady links slots = (on : ℕ) → on ≤ LAST_LINK → is_ready (slot_at slots on) ≡ true → is_in links on ≡ true

-- each data link with a message is in a set
abbrev pub HasKept : ℕ → LinkSlots → Type 0
HasKept links slots = (on : ℕ) → FIRST_LINK ≤ on → on ≤ LAST_LINK → is_empty (slot_at slots on) ≡ false → is_in links on ≡ true

-- the two sets of links that a peer keeps cover its slots
pub record AreMarked (kept again : ℕ) (slots : LinkSlots) : Type 0 where
  pub has_kept : HasKept kept slots
  pub has_ready : HasReady again slots

-- no message is ready on a link
abbrev pub IsSilent : ℕ → PeerState → Type 0
IsSilent on s = (number : ℕ) → output_on number on s ≡ None

-- `link` is at or after `from`, and all links between the two are silent; or, without a link, all from
-- `from` on are silent
pub record SilentTo (from link : ℕ) (s : PeerState) : Type 0 where
  pub least : from ≤ link
  pub last : link ≤ LAST_LINK
  pub between : (on : ℕ) → from ≤ on → on < link → IsSilent on s

abbrev pub SilentFrom : ℕ → Option ℕ → PeerState → Type 0
SilentFrom from None s = (on : ℕ) → from ≤ on → on ≤ LAST_LINK → IsSilent on s
SilentFrom from (Some link) s = SilentTo from link s

-- the lower of two optional links; a missing one is ignored
abbrev pub lower_of : Option ℕ → Option ℕ → Option ℕ
lower_of None other = other
lower_of (Some one) None = Some one
lower_of (Some one) (Some other) = Some (min one other)
