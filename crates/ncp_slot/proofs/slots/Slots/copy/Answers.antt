use Rattle.std.proofs.Common.{◌<◌, ◌≤◌, ◌∙◌, sym, ap, List, ◌++◌, ◌∷◌, [], length, take, arith}
use Rattle.std.specs.Box.{boxed_slice_items}
use Rattle.std.proofs.lemmas.List.{take_more, take_all}
use Rattle.ncp_slot.specs.Slots.{LinkSlot, slots_in}
use Rattle.ncp_slot.proofs.slots.Slots.copy.Goals as goal

pub loop-place-preserved : goal.loop-place-preserved
loop-place-preserved c =
    let inside : c.loop-place.place < length (boxed_slice_items c.self.inside.slots) = omega arith in
    record {
      len = omega arith;
      room = omega arith;
      copied = c.push_reserved.ensures.items
          ∙ ap (λ (items : List LinkSlot). items ++ c.copy.result ∷ []) c.loop-place.invariant.copied
          ∙ ap (λ (slot : LinkSlot). take c.loop-place.place (boxed_slice_items c.self.inside.slots) ++ slot ∷ []) (c.copy.ensures ∙ c.index.ensures)
          ∙ sym (take_more (boxed_slice_items c.self.inside.slots) c.loop-place.place c.index.result.now inside);
    }

pub invariant_of-result : goal.invariant_of-result
invariant_of-result c =
    let all : length (boxed_slice_items c.self.inside.slots) ≤ c.loop-place.place = omega arith in
    ap length (c.into_boxed_slice.ensures.items ∙ c.loop-place.invariant.copied ∙ take_all c.loop-place.place (boxed_slice_items c.self.inside.slots) all) ∙ c.self.invariant

pub returns : goal.returns
returns c =
    let all : length (boxed_slice_items c.self.inside.slots) ≤ c.loop-place.place = omega arith in
    ap slots_in (c.into_boxed_slice.ensures.items ∙ c.loop-place.invariant.copied ∙ take_all c.loop-place.place (boxed_slice_items c.self.inside.slots) all) ∙ c.self.view_is
