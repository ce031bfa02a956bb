use Rattle.std.specs.Box.{boxed_slice_items}
use Rattle.std.proofs.Common.{◌≡◌, ◌<◌, ◌∙◌, length, sym, ap, arith}
use Rattle.ncp_slot.specs.Slot.{is_empty}
use Rattle.ncp_slot.specs.Slots.{slot_at}
use Rattle.ncp_slot.proofs.Places.{slot_at-place}
use Rattle.ncp_slot.proofs.slots.Slots.is_empty.Goals as goal

pub returns : goal.returns
returns c =
    let inside : c.position_of.result < length (boxed_slice_items c.self.inside.slots) = omega arith in
    let read : slot_at c.args.self.now c.args.link ≡ c.index.result.now = slot_at-place (boxed_slice_items c.self.inside.slots) c.args.self.now c.args.link c.position_of.result c.index.result.now c.self.view_is c.requires.0 c.position_of.ensures.index inside c.index.ensures in
    c.is_empty.ensures ∙ ap is_empty (sym read)
