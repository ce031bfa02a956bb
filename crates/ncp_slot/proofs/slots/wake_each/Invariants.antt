use Rattle.std.proofs.Common.{◌≡◌, ◌++◌, map, take, drop}
use Rattle.ncp_slot.specs.Slot.{woken}
use Rattle.ncp_slot.proofs.slots.wake_each.Given as goal

abbrev pub invariant-loop-slot : goal.invariant-loop-slot
invariant-loop-slot l = l.slots ≡ map woken (take l.slot-index l.initial.slots) ++ drop l.slot-index l.initial.slots
