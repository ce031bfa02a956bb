use Rattle.std.proofs.Common.{◌≡◌, ℕ, ◌<◌, inl, inr, Option, None, Some, refl, is_some, unwrap_or, sym, ap, subst, arith}
use Rattle.std.specs.FinMap.{get}
use Rattle.std.proofs.lemmas.Bool.{cases_lt}
use Rattle.ncp_slot.specs.declared.slot.Slot.TheVariants.{Empty}
use Rattle.ncp_slot.specs.Links.{HasItsLinks}
use Rattle.ncp_slot.specs.Slots.{LinkSlot, LinkSlots, slot_at}
use Rattle.ncp_wire.specs.declared.links.TheConstants.{LAST_LINK}
use Rattle.ncp_peer.specs.Loading.{IsSmall}
use Rattle.ncp_peer.proofs.peer.restoring.are_fit.Goals as goal

-- a link past the last has no slot
past_the_last : (slots : LinkSlots) (on : ℕ) → HasItsLinks slots → LAST_LINK < on → IsSmall (slot_at slots on)
unfolding slot_at
past_the_last slots on has past = go (get slots on) refl
  where
    go : (o : Option LinkSlot) → get slots on ≡ o → IsSmall (unwrap_or (get slots on) Empty)
    go None e = subst (λ (o : Option LinkSlot). IsSmall (unwrap_or o Empty)) (sym e) tt
    go (Some slot) e = absurd (let last = ((has on).0 (ap is_some e)).1 in omega (arith, last, past))

pub returns : goal.returns
returns c = record {
  links = c.has_its_links.ensures;
  small = λ on. elim (cases_lt LAST_LINK on) [
    | inl past ↦ past_the_last c.args.slots.now on c.has_its_links.ensures past
    | inr inside ↦ c.loop-link.invariant on (omega (arith, inside))
  ];
}
