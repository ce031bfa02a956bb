-- What is kept of the messages of a host shows which of its data links have one.
use Rattle.std.proofs.Common.{◌≡◌, ℕ, Bool, true, false, not, ◌&&◌, ◌||◌, if◌then◌else◌, List, [], ◌∷◌, inl, inr, refl, sym, ap, ◌∙◌}
use Rattle.std.specs.List.{filter, list_any}
use Rattle.ncp_slot.specs.Slot.{is_empty}
use Rattle.ncp_slot.specs.Slots.{LinkSlot, LinkSlots, slot_at}
use Rattle.ncp_interface.specs.declared.sent_message.SentMessage.{SentMessage}
use Rattle.ncp_interface.specs.declared.sent_message.LinkState.{LinkState}
use Rattle.ncp_interface.specs.Slots.{is_of, is_slot_empty}
use Rattle.ncp_proof_monitor.proofs.Shown.{ShowsOne, Shows, only}
use Rattle.ncp_proof_monitor_host.proofs.Carries.{ShowsBusy}

-- of those that pass one test, those that pass another too
any_filter : (p q : SentMessage → Bool) (xs : List SentMessage) → list_any (λ k. p k && q k) xs ≡ list_any q (filter p xs)
any_filter p q [] = refl
any_filter p q (x ∷ xs) = go (p x) (any_filter p q xs)
  where
    go : (b : Bool) → list_any (λ k. p k && q k) xs ≡ list_any q (filter p xs) → ((b && q x) || list_any (λ k. p k && q k) xs) ≡ list_any q (if b then x ∷ filter p xs else filter p xs)
    go true e = ap (λ (y : Bool). q x || y) e
    go false e = e

busy_one : (k : LinkState) (message : List Bool) (s : LinkSlot) → ShowsOne k message s → is_empty s ≡ not (not (is_slot_empty k) || false)
busy_one LinkState.Unknown m s h = absurd h
busy_one LinkState.Empty m s h = ap is_empty h
busy_one LinkState.Out m s h = ap is_empty h
busy_one LinkState.Came m s h = ap is_empty h
busy_one LinkState.Again m s (inl h) = ap is_empty h
busy_one LinkState.Again m s (inr h) = ap is_empty h

busy_shown : (xs : List SentMessage) (s : LinkSlot) → Shows xs s → is_empty s ≡ not (list_any (λ k. not (is_slot_empty k.slot)) xs)
busy_shown [] s h = ap is_empty h
busy_shown (k ∷ rest) s h =
    let one = only k rest s h in
    busy_one k.slot k.message s one.1 ∙ sym (ap (λ (xs : List SentMessage). not (list_any (λ x. not (is_slot_empty x.slot)) (k ∷ xs))) one.0)

pub shows_busy : (me n : ℕ) (kept : List SentMessage) (slots : LinkSlots) → ((on : ℕ) → Shows (filter (is_of me n on) kept) (slot_at slots on)) → ShowsBusy me n kept slots
shows_busy me n kept slots h on z = busy_shown (filter (is_of me n on) kept) (slot_at slots on) (h on) ∙ sym (ap not (any_filter (is_of me n on) (λ k. not (is_slot_empty k.slot)) kept))
