-- To wake the slots in a row is to wake those of the links.
use Rattle.std.proofs.Common.{◌≡◌, ℕ, ◌+◌, Bool, true, false, cond, List, [], ◌∷◌, map, Option, Some, None, unwrap_or, refl, sym, ap, ◌∙◌}
use Rattle.std.specs.Option.{option_map}
use Rattle.std.specs.Ordering.{nat_cmp, eq_by_cmp}
use Rattle.std.specs.FinMap.{find, get, entries, get-entries, get-from_entries, same_map, nat_cmp-IsAntisymmetric}
use Rattle.std.proofs.lemmas.Cmp.{nat_cmp_total}
use Rattle.ncp_slot.specs.declared.slot.Slot.TheVariants.{Empty, Ready, Travelling, Held}
use Rattle.ncp_slot.specs.Slot.{woken, is_held}
use Rattle.ncp_slot.specs.Slots.{LinkSlot, LinkSlots, slot_at, all_woken, link_of_index, with_links, slots_in}

-- an entry after the user asked for what is held
abbrev woken_entry : ℕ × LinkSlot → ℕ × LinkSlot
woken_entry entry = (entry.0, woken entry.1)

find-woken : (link : ℕ) (all : List (ℕ × LinkSlot)) → find nat_cmp link (map woken_entry all) ≡ option_map woken (find nat_cmp link all)
find-woken link [] = refl
find-woken link (entry ∷ all) = ap (cond (eq_by_cmp nat_cmp link entry.0) (Some (woken entry.1))) (find-woken link all) ∙ go (eq_by_cmp nat_cmp link entry.0) (find nat_cmp link all)
  where
    go : (b : Bool) (rest : Option LinkSlot) → cond b (Some (woken entry.1)) (option_map woken rest) ≡ option_map woken (cond b (Some entry.1) rest)
    go true rest = refl
    go false rest = refl

get-all_woken : (slots : LinkSlots) (link : ℕ) → get (all_woken slots) link ≡ option_map woken (get slots link)
unfolding all_woken
get-all_woken slots link = get-from_entries nat_cmp_total (map woken_entry (entries slots)) link ∙ find-woken link (entries slots) ∙ ap (option_map woken) (sym (get-entries slots link))

with_links-woken : (place : ℕ) (slots : List LinkSlot) → with_links place (map woken slots) ≡ map woken_entry (with_links place slots)
with_links-woken place [] = refl
with_links-woken place (slot ∷ slots) = ap (λ (rest : List (ℕ × LinkSlot)). woken_entry (link_of_index place, slot) ∷ rest) (with_links-woken (place + 1) slots)

get-slots_in-woken : (slots : List LinkSlot) (link : ℕ) → get (slots_in (map woken slots)) link ≡ option_map woken (get (slots_in slots) link)
unfolding slots_in
get-slots_in-woken slots link =
    get-from_entries nat_cmp_total (with_links 0 (map woken slots)) link
    ∙ ap (find nat_cmp link) (with_links-woken 0 slots)
    ∙ find-woken link (with_links 0 slots)
    ∙ ap (option_map woken) (sym (get-from_entries nat_cmp_total (with_links 0 slots) link))

-- to wake the slots in a row is to wake those of all links
pub slots_in-woken : (slots : List LinkSlot) → slots_in (map woken slots) ≡ all_woken (slots_in slots)
slots_in-woken slots = same_map nat_cmp_total nat_cmp-IsAntisymmetric _ _ (λ link. get-slots_in-woken slots link ∙ sym (get-all_woken (slots_in slots) link))

pub slot_at-all_woken : (slots : LinkSlots) (link : ℕ) → slot_at (all_woken slots) link ≡ woken (slot_at slots link)
unfolding slot_at
slot_at-all_woken slots link = ap (λ o. unwrap_or o Empty) (get-all_woken slots link) ∙ go (get slots link)
  where
    go : (o : Option LinkSlot) → unwrap_or (option_map woken o) Empty ≡ woken (unwrap_or o Empty)
    go None = refl
    go (Some slot) = refl

-- where nothing is held nothing changes
pub all_woken-none : (slots : LinkSlots) → ((link : ℕ) → is_held (slot_at slots link) ≡ true → ⊥) → all_woken slots ≡ slots
unfolding slot_at
all_woken-none slots none = same_map nat_cmp_total nat_cmp-IsAntisymmetric _ _ (λ link. get-all_woken slots link ∙ go (get slots link) (none link))
  where
    go : (o : Option LinkSlot) → (is_held (unwrap_or o Empty) ≡ true → ⊥) → option_map woken o ≡ o
    go None not_held = refl
    go (Some Empty) not_held = refl
    go (Some (Ready message)) not_held = refl
    go (Some (Travelling message)) not_held = refl
    go (Some (Held message)) not_held = absurd (not_held refl)
