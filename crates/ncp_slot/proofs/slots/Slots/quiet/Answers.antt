use Rattle.std.specs.Box.{boxed_slice_items}
use Rattle.std.proofs.Common.{◌≡◌, ◌∙◌, ◌↔◌, true, drop, sym, ap, arith}
use Rattle.std.specs.List.{list_all}
use Rattle.std.proofs.lemmas.List.{take_all, length-drop}
use Rattle.ncp_slot.specs.Slot.{is_empty}
use Rattle.ncp_slot.specs.Slots.{IsQuiet}
use Rattle.ncp_slot.proofs.Places.{quiet-all_empty, all_empty-quiet, is_quiet-tells, same_test}
use Rattle.ncp_slot.proofs.slots.Slots.quiet.Goals as goal

tells : (c : goal.After-all_empty) → (c.all_empty.result ≡ true) ↔ IsQuiet c.args.self.now
tells c =
    let told : c.all_empty.result ≡ list_all is_empty (drop 1 (boxed_slice_items c.self.inside.slots)) = c.all_empty.ensures ∙ ap (list_all is_empty) (take_all _ _ (simp length-drop (omega arith)) ∙ ap (drop 1) c.deref.ensures.value) in
    (λ empty. quiet-all_empty (boxed_slice_items c.self.inside.slots) c.args.self.now c.self.view_is (sym told ∙ empty), λ quiet. told ∙ all_empty-quiet (boxed_slice_items c.self.inside.slots) c.args.self.now c.self.view_is c.self.invariant quiet)

pub returns-clause-quiet : goal.returns-clause-quiet
returns-clause-quiet c = tells c

pub returns-clause-test : goal.returns-clause-test
returns-clause-test c = same_test _ _ (tells c) (is_quiet-tells c.args.self.now)
