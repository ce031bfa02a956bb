use Rattle.std.specs.Box.{boxed_slice_items}
use Rattle.std.proofs.Common.{◌≡◌, ◌<◌, ◌∙◌, length, ◌≢◌, ◌≤◌, ◌-◌, inl, inr, Bool, List, true, slice_set, Result, Ok, Err, OnOk, sym, ap, arith}
use Rattle.std.proofs.lemmas.Bool.{cases_lt}
use Rattle.ncp_slot.specs.declared.slot.Slot.TheVariants.{Empty}
use Rattle.ncp_wire.specs.declared.links.TheConstants.{LAST_LINK}
use Rattle.ncp_slot.specs.Slots.{HasSlot}
use Rattle.ncp_slot.specs.Slot.{answered, is_travelling}
use Rattle.ncp_slot.specs.Slots.{slot_at, with_slot, slots_in}
use Rattle.ncp_slot.proofs.Places.{slot_at-place, slots_in-place, slot_at-changed, OthersStay-changed, slot_at-past}
use Rattle.ncp_slot.proofs.slots.Slots.answer.Goals as goal

-- where the test failed the link has no slot
no : (c : goal.Then-not-has_slot) → HasSlot c.args.link → ⊥
no c has = let t : c.has_slot.result ≡ true = c.has_slot.ensures.1 has in cc

on_ok : {T E : Type 0} (r : Result T E) {P : Type 0} → P → OnOk r P
on_ok (Ok x) p = p
on_ok (Err e) p = tt

pub returns-then-not-has_slot-clause-variant : goal.returns-then-not-has_slot-clause-variant
returns-then-not-has_slot-clause-variant c =
    let past : c.args.link ≢ 1 → length (boxed_slice_items c.self.inside.slots) ≤ c.args.link - 1 = λ has. elim (cases_lt LAST_LINK c.args.link) [ inl h ↦ omega arith | inr h ↦ absurd (no c (has, h)) ] in
    let none : slot_at c.args.self.now c.args.link ≡ Empty = slot_at-past (boxed_slice_items c.self.inside.slots) c.args.self.now c.args.link c.self.view_is past in
    (λ no_ok. cc, λ travelling. let t : is_travelling {M = List Bool} Empty ≡ true = rw none at travelling in t)

pub returns-then-not-has_slot-clause-slot : goal.returns-then-not-has_slot-clause-slot
returns-then-not-has_slot-clause-slot c =
    let past : c.args.link ≢ 1 → length (boxed_slice_items c.self.inside.slots) ≤ c.args.link - 1 = λ has. elim (cases_lt LAST_LINK c.args.link) [ inl h ↦ omega arith | inr h ↦ absurd (no c (has, h)) ] in
    let none : slot_at c.args.self.now c.args.link ≡ Empty = slot_at-past (boxed_slice_items c.self.inside.slots) c.args.self.now c.args.link c.self.view_is past in
    ap (λ s. slot_at s c.args.link) c.self.view_is ∙ none ∙ ap (answered c.args.answer) (sym none)

pub returns-clause-variant : goal.returns-clause-variant
returns-clause-variant c =
    let inside : c.position_of.result < length (boxed_slice_items c.self.inside.slots) = omega arith in
    let read : slot_at c.args.self.now c.args.link ≡ c.index_mut.result.now = slot_at-place (boxed_slice_items c.self.inside.slots) c.args.self.now c.args.link c.position_of.result c.index_mut.result.now c.self.view_is (c.has_slot.ensures.0 c.if-not-has_slot.false).0 c.position_of.ensures.index inside c.index_mut.ensures.value in
    (λ ok. ap is_travelling read ∙ c.answer.ensures.variant.0 ok, λ travelling. c.answer.ensures.variant.1 (ap is_travelling (sym read) ∙ travelling))

pub returns-clause-slot : goal.returns-clause-slot
returns-clause-slot c =
    let inside : c.position_of.result < length (boxed_slice_items c.self.inside.slots) = omega arith in
    let read : slot_at c.args.self.now c.args.link ≡ c.index_mut.result.now = slot_at-place (boxed_slice_items c.self.inside.slots) c.args.self.now c.args.link c.position_of.result c.index_mut.result.now c.self.view_is (c.has_slot.ensures.0 c.if-not-has_slot.false).0 c.position_of.ensures.index inside c.index_mut.ensures.value in
    let written : slots_in (slice_set (boxed_slice_items c.self.inside.slots) c.position_of.result c.answer.new.self) ≡ with_slot c.args.self.now c.args.link c.answer.new.self = slots_in-place (boxed_slice_items c.self.inside.slots) c.args.self.now c.args.link c.position_of.result c.answer.new.self c.self.view_is (c.has_slot.ensures.0 c.if-not-has_slot.false).0 c.position_of.ensures.index inside in
    slot_at-changed _ _ _ _ written ∙ c.answer.ensures.slot ∙ ap (answered c.args.answer) (sym read)

pub returns-clause-others : goal.returns-clause-others
returns-clause-others c =
    let inside : c.position_of.result < length (boxed_slice_items c.self.inside.slots) = omega arith in
    let written : slots_in (slice_set (boxed_slice_items c.self.inside.slots) c.position_of.result c.answer.new.self) ≡ with_slot c.args.self.now c.args.link c.answer.new.self = slots_in-place (boxed_slice_items c.self.inside.slots) c.args.self.now c.args.link c.position_of.result c.answer.new.self c.self.view_is (c.has_slot.ensures.0 c.if-not-has_slot.false).0 c.position_of.ensures.index inside in
    OthersStay-changed _ _ _ _ written

pub returns-clause-ok : goal.returns-clause-ok
returns-clause-ok c =
    let inside : c.position_of.result < length (boxed_slice_items c.self.inside.slots) = omega arith in
    let read : slot_at c.args.self.now c.args.link ≡ c.index_mut.result.now = slot_at-place (boxed_slice_items c.self.inside.slots) c.args.self.now c.args.link c.position_of.result c.index_mut.result.now c.self.view_is (c.has_slot.ensures.0 c.if-not-has_slot.false).0 c.position_of.ensures.index inside c.index_mut.ensures.value in
    let written : slots_in (slice_set (boxed_slice_items c.self.inside.slots) c.position_of.result c.answer.new.self) ≡ with_slot c.args.self.now c.args.link c.answer.new.self = slots_in-place (boxed_slice_items c.self.inside.slots) c.args.self.now c.args.link c.position_of.result c.answer.new.self c.self.view_is (c.has_slot.ensures.0 c.if-not-has_slot.false).0 c.position_of.ensures.index inside in
    on_ok c.answer.result (written ∙ ap (with_slot c.args.self.now c.args.link) (c.answer.ensures.slot ∙ ap (answered c.args.answer) (sym read)))
