use Rattle.std.proofs.Common.{◌≡◌, ◌∙◌, ℕ, true, false, below_more, sym, ap, arith}
use Rattle.std.proofs.lemmas.List.{get_or_default}
use Rattle.ncp_slot.specs.declared.slot.Slot.TheVariants.{Empty}
use Rattle.ncp_slot.specs.Slot.{is_ready}
use Rattle.ncp_slot.specs.Slots.{slot_at, slots_in, link_of_index}
use Rattle.ncp_slot.proofs.Places.{slot_at-place, link_at-has, place-link_at, none_ready-below, none_ready}
use Rattle.ncp_slot.proofs.slots.Slots.first_ready.Goals as goal

pub returns-then-is_ready-clause-first : goal.returns-then-is_ready-clause-first
returns-then-is_ready-clause-first c =
    let is : slots_in c.deref-slot-items.result.now ≡ c.args.self.now = ap slots_in c.deref-slot-items.ensures.value ∙ c.self.view_is in
    let ready : is_ready (slot_at c.args.self.now c.link_of.result) ≡ true =
    ap (λ (link : ℕ). is_ready (slot_at c.args.self.now link)) c.link_of.ensures
    ∙ ap is_ready (slot_at-place c.deref-slot-items.result.now c.args.self.now (link_of_index c.loop-place.place) c.loop-place.place c.slot-item.result is (link_at-has c.loop-place.place) (place-link_at c.loop-place.place) c.loop-place-test.true c.slot-item.is)
    ∙ sym c.is_ready.ensures ∙ c.if-is_ready.true in
    (ready, λ lower below is_one. let no : is_ready (slot_at c.args.self.now lower) ≡ false = none_ready-below c.deref-slot-items.result.now c.args.self.now c.loop-place.place is c.loop-place.invariant lower (rw c.link_of.ensures at below) in cc)

pub loop-place-preserved : goal.loop-place-preserved
loop-place-preserved c = below_more _ _ c.loop-place.invariant
    (ap is_ready (get_or_default c.deref-slot-items.result.now c.loop-place.place Empty c.slot-item.result c.loop-place-test.true ∙ sym c.slot-item.is) ∙ sym c.is_ready.ensures ∙ c.if-is_ready.false)

pub returns-clause-none : goal.returns-clause-none
returns-clause-none c =
    let is : slots_in c.deref-slot-items.result.now ≡ c.args.self.now = ap slots_in c.deref-slot-items.ensures.value ∙ c.self.view_is in
    λ link is_one. let no : is_ready (slot_at c.args.self.now link) ≡ false = none_ready c.deref-slot-items.result.now c.args.self.now is (λ k h. c.loop-place.invariant k (omega arith)) link in cc
