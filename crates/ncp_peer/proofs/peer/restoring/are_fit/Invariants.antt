use Rattle.std.proofs.Common.{ℕ, ◌<◌}
use Rattle.ncp_slot.specs.Slots.{slot_at}
use Rattle.ncp_peer.specs.Loading.{IsSmall}
use Rattle.ncp_peer.proofs.peer.restoring.are_fit.Given as goal

-- the messages of the links so far are
abbrev pub invariant-loop-link : goal.invariant-loop-link
invariant-loop-link l = (on : ℕ) → on < l.link → IsSmall (slot_at l.slots on)
