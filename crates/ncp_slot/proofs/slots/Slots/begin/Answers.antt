use Rattle.std.specs.Box.{boxed_slice_items}
use Rattle.std.proofs.Common.{◌<◌, length, refl, arith}
use Rattle.ncp_slot.specs.declared.slot.Slot.TheVariants.{Travelling}
use Rattle.ncp_slot.proofs.Places.{slots_in-place}
use Rattle.ncp_slot.proofs.slots.Slots.begin.Goals as goal

pub returns : goal.returns
returns c =
    let inside : c.position_of.result < length (boxed_slice_items c.self.inside.slots) = omega arith in
    ((refl, λ w. slots_in-place (boxed_slice_items c.self.inside.slots) c.args.self.now c.args.link c.position_of.result (Travelling w) c.self.view_is c.requires.link.0 c.position_of.ensures.index inside), tt)
