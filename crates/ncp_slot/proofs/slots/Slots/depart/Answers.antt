use Rattle.std.specs.Box.{boxed_slice_items}
use Rattle.std.proofs.Common.{◌≡◌, ◌<◌, ◌∙◌, length, slice_set, sym, ap, arith}
use Rattle.ncp_slot.specs.Slot.{handed_out, is_ready}
use Rattle.ncp_slot.specs.Slots.{slot_at, with_slot, slots_in}
use Rattle.ncp_slot.proofs.Places.{slot_at-place, slots_in-place, slot_at-changed, OthersStay-changed}
use Rattle.ncp_slot.proofs.slots.Slots.depart.Goals as goal

pub returns-clause-ready : goal.returns-clause-ready
returns-clause-ready c =
    let inside : c.position_of.result < length (boxed_slice_items c.self.inside.slots) = omega arith in
    let read : slot_at c.args.self.now c.args.link ≡ c.index_mut.result.now = slot_at-place (boxed_slice_items c.self.inside.slots) c.args.self.now c.args.link c.position_of.result c.index_mut.result.now c.self.view_is c.requires.0 c.position_of.ensures.index inside c.index_mut.ensures.value in
    (λ went. ap is_ready read ∙ sym c.depart.ensures.ready ∙ went, λ ready. c.depart.ensures.ready ∙ ap is_ready (sym read) ∙ ready)

pub returns-clause-slot : goal.returns-clause-slot
returns-clause-slot c =
    let inside : c.position_of.result < length (boxed_slice_items c.self.inside.slots) = omega arith in
    let read : slot_at c.args.self.now c.args.link ≡ c.index_mut.result.now = slot_at-place (boxed_slice_items c.self.inside.slots) c.args.self.now c.args.link c.position_of.result c.index_mut.result.now c.self.view_is c.requires.0 c.position_of.ensures.index inside c.index_mut.ensures.value in
    let written : slots_in (slice_set (boxed_slice_items c.self.inside.slots) c.position_of.result c.depart.new.self) ≡ with_slot c.args.self.now c.args.link c.depart.new.self = slots_in-place (boxed_slice_items c.self.inside.slots) c.args.self.now c.args.link c.position_of.result c.depart.new.self c.self.view_is c.requires.0 c.position_of.ensures.index inside in
    slot_at-changed _ _ _ _ written ∙ c.depart.ensures.slot ∙ ap handed_out (sym read)

pub returns-clause-others : goal.returns-clause-others
returns-clause-others c =
    let inside : c.position_of.result < length (boxed_slice_items c.self.inside.slots) = omega arith in
    let written : slots_in (slice_set (boxed_slice_items c.self.inside.slots) c.position_of.result c.depart.new.self) ≡ with_slot c.args.self.now c.args.link c.depart.new.self = slots_in-place (boxed_slice_items c.self.inside.slots) c.args.self.now c.args.link c.position_of.result c.depart.new.self c.self.view_is c.requires.0 c.position_of.ensures.index inside in
    OthersStay-changed _ _ _ _ written

pub returns-clause-slots : goal.returns-clause-slots
returns-clause-slots c =
    let inside : c.position_of.result < length (boxed_slice_items c.self.inside.slots) = omega arith in
    let read : slot_at c.args.self.now c.args.link ≡ c.index_mut.result.now = slot_at-place (boxed_slice_items c.self.inside.slots) c.args.self.now c.args.link c.position_of.result c.index_mut.result.now c.self.view_is c.requires.0 c.position_of.ensures.index inside c.index_mut.ensures.value in
    let written : slots_in (slice_set (boxed_slice_items c.self.inside.slots) c.position_of.result c.depart.new.self) ≡ with_slot c.args.self.now c.args.link c.depart.new.self = slots_in-place (boxed_slice_items c.self.inside.slots) c.args.self.now c.args.link c.position_of.result c.depart.new.self c.self.view_is c.requires.0 c.position_of.ensures.index inside in
    written ∙ ap (with_slot c.args.self.now c.args.link) (c.depart.ensures.slot ∙ ap handed_out (sym read))
