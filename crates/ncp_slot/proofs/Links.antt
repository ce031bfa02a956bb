-- Slots of just the links that have one.
use Rattle.std.proofs.Common.{◌≡◌, ◌≢◌, ℕ, ◌+◌, ◌-◌, ◌<◌, ◌≤◌, true, false, List, length, Option, None, Some, is_some, unwrap_or, ◌↔◌, inl, inr, refl, sym, ap, ◌∙◌, arith, true≢false}
use Rattle.std.specs.List.{slice_get}
use Rattle.std.specs.Ordering.{nat_cmp}
use Rattle.std.specs.FinMap.{get, same_map, nat_cmp-IsAntisymmetric}
use Rattle.std.proofs.lemmas.Cmp.{nat_cmp_total}
use Rattle.std.proofs.lemmas.Bool.Decides.{eqb_tells}
use Rattle.std.proofs.lemmas.Option.{slice_get-get_or, slice_get_past}
use Rattle.std.proofs.lemmas.Bool.{cases_lt}
use Rattle.ncp_slot.specs.declared.slot.Slot.TheVariants.{Empty}
use Rattle.ncp_slot.specs.declared.slots.TheConstants.{SLOTS}
use Rattle.ncp_wire.specs.declared.links.TheConstants.{LAST_LINK}
use Rattle.ncp_slot.specs.Slots.{LinkSlot, LinkSlots, HasSlot, slot_at, slots_in}
use Rattle.ncp_slot.specs.Links.{HasItsLinks}
use Rattle.ncp_slot.proofs.Places.{get-slots_in, get-slots_in-none}

some_within : (slots : List LinkSlot) (place : ℕ) → place < length slots → is_some (slice_get slots place) ≡ true
some_within slots place inside = ap is_some (slice_get-get_or slots place Empty inside)

pub has_its_links : (slots : List LinkSlot) → length slots ≡ SLOTS → HasItsLinks (slots_in slots)
has_its_links slots len link = elim (eqb_tells link 1) [
  | inl one ↦ (
    λ some. absurd (true≢false (sym some ∙ ap is_some (ap (get (slots_in slots)) one.1 ∙ get-slots_in-none slots))),
    λ has. absurd (has.0 one.1),
  )
  | inr other ↦
      let at : get (slots_in slots) link ≡ slice_get slots (link - 1) = get-slots_in slots link other.1 in (
        λ some. (
          other.1,
          elim (cases_lt LAST_LINK link) [
            | inl past ↦ absurd (true≢false (sym some ∙ ap is_some (at ∙ slice_get_past slots (link - 1) (omega (arith, len, past)))))
            | inr inside ↦ inside
          ],
        ),
        λ has. ap is_some at ∙ some_within slots (link - 1) (let to = has.1 in let ne = has.0 in omega (arith, len, to)),
      )
]

-- slots of the same links that are alike on each of them are the same
pub same_slots : (one other : LinkSlots) → HasItsLinks one → HasItsLinks other → ((link : ℕ) → HasSlot link → slot_at one link ≡ slot_at other link) → one ≡ other
unfolding slot_at
same_slots one other has_one has_other same = same_map nat_cmp_total nat_cmp-IsAntisymmetric one other (λ q. go q (get one q) (get other q) refl refl)
  where
    go : (q : ℕ) (x y : Option LinkSlot) → get one q ≡ x → get other q ≡ y → x ≡ y
    go q None None ex ey = refl
    go q (Some x) (Some y) ex ey =
        ap Some (sym (ap (λ (o : Option LinkSlot). unwrap_or o Empty) ex) ∙ same q ((has_one q).0 (ap is_some ex)) ∙ ap (λ (o : Option LinkSlot). unwrap_or o Empty) ey)
    go q None (Some y) ex ey = absurd (true≢false (sym ((has_one q).1 ((has_other q).0 (ap is_some ey))) ∙ ap is_some ex))
    go q (Some x) None ex ey = absurd (true≢false (sym ((has_other q).1 ((has_one q).0 (ap is_some ex))) ∙ ap is_some ey))
