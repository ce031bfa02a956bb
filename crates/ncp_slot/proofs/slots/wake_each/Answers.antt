use Rattle.std.proofs.Common.{◌∙◌, sym, ap, set}
use Rattle.std.proofs.lemmas.List.Edits.{map_over_more}
use Rattle.ncp_slot.specs.Slot.{woken}
use Rattle.ncp_slot.specs.Slots.{LinkSlot}
use Rattle.ncp_slot.proofs.slots.wake_each.Goals as goal

pub loop-slot-preserved : goal.loop-slot-preserved
loop-slot-preserved c =
    ap (λ (slot : LinkSlot). set c.loop-slot.slots c.loop-slot.slot-index slot) (c.wake.ensures ∙ ap woken (sym c.slot-item.is))
    ∙ map_over_more woken c.args.slots.now c.loop-slot.slots c.loop-slot.slot-index c.slot-item.result c.loop-slot-test.true c.loop-slot.invariant c.slot-item.is
