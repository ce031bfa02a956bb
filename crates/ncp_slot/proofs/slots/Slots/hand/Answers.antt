use Rattle.std.specs.Box.{boxed_slice_items}
use Rattle.std.proofs.Common.{◌≡◌, ◌<◌, ◌∙◌, length, slice_set, sym, ap, arith}
use Rattle.std.proofs.lemmas.Option.{IfSome_then}
use Rattle.ncp_slot.specs.Slot.{handed_out, ready_message}
use Rattle.ncp_slot.specs.Slots.{slot_at, with_slot, slots_in}
use Rattle.ncp_slot.proofs.Places.{slot_at-place, slots_in-place, slot_at-changed, OthersStay-changed}
use Rattle.ncp_slot.proofs.slots.Slots.hand.Goals as goal

pub returns-clause-handed : goal.returns-clause-handed
returns-clause-handed c =
    let inside : c.position_of.result < length (boxed_slice_items c.self.inside.slots) = omega arith in
    let read : slot_at c.args.self.now c.args.link ≡ c.index_mut.result.now = slot_at-place (boxed_slice_items c.self.inside.slots) c.args.self.now c.args.link c.position_of.result c.index_mut.result.now c.self.view_is c.requires.0 c.position_of.ensures.index inside c.index_mut.ensures.value in
    c.hand.ensures.handed ∙ ap ready_message (sym read)

pub returns-clause-slot : goal.returns-clause-slot
returns-clause-slot c =
    let inside : c.position_of.result < length (boxed_slice_items c.self.inside.slots) = omega arith in
    let read : slot_at c.args.self.now c.args.link ≡ c.index_mut.result.now = slot_at-place (boxed_slice_items c.self.inside.slots) c.args.self.now c.args.link c.position_of.result c.index_mut.result.now c.self.view_is c.requires.0 c.position_of.ensures.index inside c.index_mut.ensures.value in
    let written : slots_in (slice_set (boxed_slice_items c.self.inside.slots) c.position_of.result c.hand.new.self) ≡ with_slot c.args.self.now c.args.link c.hand.new.self = slots_in-place (boxed_slice_items c.self.inside.slots) c.args.self.now c.args.link c.position_of.result c.hand.new.self c.self.view_is c.requires.0 c.position_of.ensures.index inside in
    slot_at-changed _ _ _ _ written ∙ c.hand.ensures.slot ∙ ap handed_out (sym read)

pub returns-clause-others : goal.returns-clause-others
returns-clause-others c =
    let inside : c.position_of.result < length (boxed_slice_items c.self.inside.slots) = omega arith in
    let written : slots_in (slice_set (boxed_slice_items c.self.inside.slots) c.position_of.result c.hand.new.self) ≡ with_slot c.args.self.now c.args.link c.hand.new.self = slots_in-place (boxed_slice_items c.self.inside.slots) c.args.self.now c.args.link c.position_of.result c.hand.new.self c.self.view_is c.requires.0 c.position_of.ensures.index inside in
    OthersStay-changed _ _ _ _ written

pub returns-clause-some : goal.returns-clause-some
returns-clause-some c =
    let inside : c.position_of.result < length (boxed_slice_items c.self.inside.slots) = omega arith in
    let written : slots_in (slice_set (boxed_slice_items c.self.inside.slots) c.position_of.result c.hand.new.self) ≡ with_slot c.args.self.now c.args.link c.hand.new.self = slots_in-place (boxed_slice_items c.self.inside.slots) c.args.self.now c.args.link c.position_of.result c.hand.new.self c.self.view_is c.requires.0 c.position_of.ensures.index inside in
    IfSome_then c.hand.result c.hand.ensures.some (λ message e. written ∙ ap (with_slot c.args.self.now c.args.link) e)
