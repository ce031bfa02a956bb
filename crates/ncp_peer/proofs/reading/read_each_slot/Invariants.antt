use Rattle.std.proofs.Common.{◌≡◌, ◌++◌, ℕ, List}
use Rattle.ncp_slot.specs.declared.slot.Slot.TheVariants.{Empty}
use Rattle.ncp_slot.specs.Slots.{LinkSlots, slot_at}
use Rattle.ncp_peer.specs.SavedPeer.{slots_saved}
use Rattle.ncp_peer.specs.Loading.{FitSlots}
use Rattle.ncp_peer.proofs.SlotsRead.{SlotsRead}
use Rattle.ncp_peer.proofs.reading.read_each_slot.Given as goal

-- the slots of the lower links are read, and the others are left
abbrev pub invariant-loop-link : goal.invariant-loop-link
invariant-loop-link l =
    (all : LinkSlots) (rest : List ℕ) → FitSlots all → ((on : ℕ) → slot_at l.fn.slots on ≡ Empty) → l.fn.reader ≡ slots_saved all ++ rest → SlotsRead all rest l.link l.reader l.slots
