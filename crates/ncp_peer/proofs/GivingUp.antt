-- What a restart does to a host, from what it does on each link to a peer.
use Rattle.std.proofs.Common.{◌≡◌, ◌<◌, ◌≤◌, ℕ, suc, ◌+◌, ◌-◌, Bool, true, false, if◌then◌else◌, List, [], ◌∷◌, Result, refl, sym, ap, ◌∙◌, arith}
use Rattle.std.specs.Prelude.{◌↔◌}
use Rattle.std.specs.Bool.{IsTrue}
use Rattle.std.specs.Result.{IsOk, OnOk, OnErr, is_err}
use Rattle.std.specs.List.{range_with_len}
use Rattle.ncp_wire.specs.declared.answer.Answer.TheVariants.{Incomplete}
use Rattle.ncp_slot.specs.declared.slot.Stray.{Stray}
use Rattle.ncp_slot.specs.Slot.{answered}
use Rattle.ncp_slot.specs.Slots.{LinkSlots, slot_at, with_slot}
use Rattle.ncp_peer.specs.PeerState.{PeerState, is_answered, answer_comes}
use Rattle.ncp_peer.specs.GivingUp.{gives_up, gives_up_all}
use Rattle.ncp_peer.proofs.Answering.{is_stray, is_no_stray, not_done, answer_heard}

pub given_up_none : (s : PeerState) → gives_up_all [] s ≡ s
unfolding gives_up_all
given_up_none s = refl

pub given_up_more : (on : ℕ) (ons : List ℕ) (s : PeerState) → gives_up_all (on ∷ ons) s ≡ gives_up_all ons (gives_up on s)
unfolding gives_up_all
given_up_more on ons s = refl

-- on one link, from what the slots answered
module _ (r : Result (Unit {0}) Stray) (on : ℕ) (s : PeerState) (told : IsOk r ↔ IsTrue (is_answered on s)) (slots : LinkSlots) where
  abbrev by_answer : Bool → PeerState
  by_answer b = if b then answer_comes on Incomplete s else s

  pub not_out : is_err r ≡ true → OnErr r (slots ≡ s.slots) → record s { slots = slots } ≡ gives_up on s
  not_out e same =
      ap (λ (x : LinkSlots). record s { slots = x }) (not_done r on Incomplete s told r e same)
      ∙ sym (ap by_answer (is_stray r on Incomplete s told r (is_answered on s) told e))

  pub was_out : is_err r ≡ false → OnOk r (slots ≡ with_slot s.slots on (answered Incomplete (slot_at s.slots on))) → record s { slots = slots } ≡ gives_up on s
  was_out e there =
      answer_heard r on Incomplete s told Incomplete slots (record s { slots = slots }) refl e there refl
      ∙ sym (ap by_answer (is_no_stray r on Incomplete s told r (is_answered on s) told e))

-- link after link
cut_range : (on : ℕ) → on < 72 → range_with_len on (72 - on) ≡ on ∷ range_with_len (on + 1) (72 - (on + 1))
cut_range on l = let e : 72 - on ≡ suc (72 - (on + 1)) = omega arith in ap (λ k. range_with_len on k) e

pub given_up_here : (on : ℕ) (s now t : PeerState) → on < 72 → now ≡ gives_up on s → gives_up_all (range_with_len on (72 - on)) s ≡ t → gives_up_all (range_with_len (on + 1) (72 - (on + 1))) now ≡ t
given_up_here on s now t l is all =
    ap (λ (x : PeerState). gives_up_all (range_with_len (on + 1) (72 - (on + 1))) x) is
    ∙ sym (given_up_more on (range_with_len (on + 1) (72 - (on + 1))) s)
    ∙ ap (λ (ons : List ℕ). gives_up_all ons s) (sym (cut_range on l)) ∙ all

pub given_up_last : (on : ℕ) (s t : PeerState) → 72 ≤ on → gives_up_all (range_with_len on (72 - on)) s ≡ t → s ≡ t
given_up_last on s t l all =
    let none : 72 - on ≡ 0 = omega arith in
    sym (given_up_none s) ∙ ap (λ (k : ℕ). gives_up_all (range_with_len on k) s) (sym none) ∙ all
