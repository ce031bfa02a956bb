use Rattle.std.proofs.Common.{◌≡◌, ℕ, ◌<◌, false, get_or}
use Rattle.ncp_slot.specs.declared.slot.Slot.TheVariants.{Empty}
use Rattle.ncp_slot.specs.Slot.{is_ready}
use Rattle.ncp_slot.proofs.slots.Slots.first_ready.Given as goal

abbrev pub invariant-loop-place : goal.invariant-loop-place
invariant-loop-place l = (k : ℕ) → k < l.place → is_ready (get_or l.slot-items k Empty) ≡ false
