use Rattle.std.specs.Box.{boxed_slice_items}
use Rattle.std.proofs.Common.{◌≡◌, ◌∙◌, map, ap}
use Rattle.std.specs.Vec.{with_items}
use Rattle.std.proofs.lemmas.List.{with_items_is}
use Rattle.ncp_slot.specs.Slot.{woken}
use Rattle.ncp_slot.specs.Slots.{LinkSlots, all_woken, slot_at, slots_in}
use Rattle.ncp_slot.proofs.Waking.{slots_in-woken, slot_at-all_woken, all_woken-none}
use Rattle.ncp_slot.proofs.slots.Slots.wake.Goals as goal

-- the slots are those before, woken
are_woken : (c : goal.After-self-1) → slots_in (with_items c.self.inside.slots.items c.wake_each.new.slots).items ≡ all_woken c.args.self.now
are_woken c =
    ap slots_in (with_items_is c.self.inside.slots.items c.wake_each.new.slots (c.wake_each.auto.slots ∙ c.deref_mut.ensures.len) ∙ c.wake_each.ensures ∙ ap (map woken) c.deref_mut.ensures.value)
    ∙ slots_in-woken (boxed_slice_items c.self.inside.slots) ∙ ap all_woken c.self.view_is

pub returns-clause-all : goal.returns-clause-all
returns-clause-all c = are_woken c

pub returns-clause-each : goal.returns-clause-each
returns-clause-each c link = ap (λ (slots : LinkSlots). slot_at slots link) (are_woken c) ∙ slot_at-all_woken c.args.self.now link

pub returns-clause-none : goal.returns-clause-none
returns-clause-none c none = are_woken c ∙ all_woken-none c.args.self.now none
