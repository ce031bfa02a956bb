-- The links on which a host may still send: each message sent takes one away, until an answer to it
-- arrives (BBN 1822, section 3).
use Rattle.std.specs.Prelude.{ℕ, ◌+◌, Bool, true, false, List, [], ◌∷◌, count_by}
use Rattle.ncp_slot.specs.declared.slot.Slot.TheVariants.{Empty, Ready, Travelling, Held}
use Rattle.ncp_slot.specs.Slots.{LinkSlot, slot_at}
use Rattle.ncp_peer.specs.PeerState.{PeerState}
use Rattle.ncp_peer.specs.Output.{links}
use Rattle.ncp_host.specs.Host.{Host}

-- no message is unacknowledged or held on the link
abbrev pub may_go : LinkSlot → Bool
may_go Empty = true
may_go (Ready message) = true
may_go (Travelling message) = false
may_go (Held message) = false

abbrev pub link_goes_on : PeerState → ℕ → Bool
link_goes_on s link = may_go (slot_at s.slots link)

abbrev pub links_to_peers : List (ℕ × PeerState) → ℕ
links_to_peers [] = 0
links_to_peers (p ∷ ps) = count_by (link_goes_on p.1) links + links_to_peers ps

abbrev pub open_links : Host → ℕ
open_links h = links_to_peers h.peers
