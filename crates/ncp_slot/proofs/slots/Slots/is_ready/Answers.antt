use Rattle.std.specs.Box.{boxed_slice_items}
use Rattle.std.proofs.Common.{◌≡◌, ◌≢◌, ◌<◌, ◌≤◌, ◌-◌, ◌∙◌, inl, inr, true, length, sym, ap, arith}
use Rattle.std.proofs.lemmas.Bool.{cases_lt}
use Rattle.ncp_slot.specs.declared.slot.Slot.TheVariants.{Empty}
use Rattle.ncp_wire.specs.declared.links.TheConstants.{LAST_LINK}
use Rattle.ncp_slot.specs.Slot.{is_ready}
use Rattle.ncp_slot.specs.Slots.{HasSlot, slot_at}
use Rattle.ncp_slot.proofs.Places.{slot_at-place, slot_at-past}
use Rattle.ncp_slot.proofs.slots.Slots.is_ready.Goals as goal

-- where the test failed the link has no slot
no : (c : goal.Then-not-has_slot) → HasSlot c.args.link → ⊥
no c has = let t : c.has_slot.result ≡ true = c.has_slot.ensures.1 has in cc

pub returns-then-not-has_slot : goal.returns-then-not-has_slot
returns-then-not-has_slot c =
    let past : c.args.link ≢ 1 → length (boxed_slice_items c.self.inside.slots) ≤ c.args.link - 1 = λ has. elim (cases_lt LAST_LINK c.args.link) [ inl h ↦ omega arith | inr h ↦ absurd (no c (has, h)) ] in
    let none : slot_at c.args.self.now c.args.link ≡ Empty = slot_at-past (boxed_slice_items c.self.inside.slots) c.args.self.now c.args.link c.self.view_is past in
    ap is_ready (sym none)

pub returns : goal.returns
returns c =
    let inside : c.position_of.result < length (boxed_slice_items c.self.inside.slots) = omega arith in
    let read : slot_at c.args.self.now c.args.link ≡ c.index.result.now = slot_at-place (boxed_slice_items c.self.inside.slots) c.args.self.now c.args.link c.position_of.result c.index.result.now c.self.view_is (c.has_slot.ensures.0 c.if-not-has_slot.false).0 c.position_of.ensures.index inside c.index.ensures in
    c.is_ready.ensures ∙ ap is_ready (sym read)
