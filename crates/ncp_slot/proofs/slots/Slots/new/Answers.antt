use Rattle.std.proofs.Common.{◌≡◌, ◌∙◌, ap, ℕ, List, ◌++◌, ◌∷◌, [], length, replicate, arith}
use Rattle.std.proofs.lemmas.List.{length-replicate, replicate-append-replicate}
use Rattle.ncp_slot.specs.declared.slot.Slot.TheVariants.{Empty}
use Rattle.ncp_slot.specs.declared.slots.TheConstants.{SLOTS}
use Rattle.ncp_slot.specs.Slots.{LinkSlot, no_slots, slot_at, slots_in}
use Rattle.ncp_slot.proofs.Places.{slot_at-replicate}
use Rattle.ncp_slot.proofs.slots.Slots.new.Goals as goal

pub loop-place-preserved : goal.loop-place-preserved
loop-place-preserved c = record {
  len = omega arith;
  room = omega arith;
  empty = c.push_reserved.ensures.items ∙ ap (λ (items : List LinkSlot). items ++ c.empty.result ∷ []) c.loop-place.invariant.empty ∙ ap (λ (slot : LinkSlot). replicate c.loop-place._place Empty ++ slot ∷ []) c.empty.ensures ∙ replicate-append-replicate c.loop-place._place 1 Empty;
}

pub invariant_of-result : goal.invariant_of-result
invariant_of-result c = ap length c.into_boxed_slice.ensures.items ∙ ap length c.loop-place.invariant.empty ∙ length-replicate _ _ ∙ omega arith

pub returns-clause-each : goal.returns-clause-each
returns-clause-each c link = ap (λ (items : List LinkSlot). slot_at (slots_in items) link) (c.into_boxed_slice.ensures.items ∙ c.loop-place.invariant.empty) ∙ slot_at-replicate c.loop-place._place link

pub returns-clause-all : goal.returns-clause-all
unfolding no_slots
returns-clause-all c = ap slots_in (c.into_boxed_slice.ensures.items ∙ c.loop-place.invariant.empty) ∙ (let all : c.loop-place._place ≡ SLOTS = omega arith in ap (λ (n : ℕ). slots_in (replicate n Empty)) all)
