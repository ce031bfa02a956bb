-- What bits do to a host, and an answer to what it has for a peer, from what their parts did.
use Rattle.std.proofs.Common.{◌≡◌, ℕ, Bool, true, false, if◌then◌else◌, Result, Ok, Err, refl, sym, ap, ◌∙◌}
use Rattle.std.specs.Prelude.{◌↔◌}
use Rattle.std.specs.Bool.{IsTrue}
use Rattle.std.specs.Result.{IsOk, OnOk, OnErr, is_err}
use Rattle.ncp_wire.specs.declared.answer.Answer.{Answer}
use Rattle.ncp_slot.specs.declared.slot.Stray.{Stray}
use Rattle.ncp_slot.specs.Slot.{answered}
use Rattle.ncp_slot.specs.Slots.{LinkSlots, slot_at, with_slot}
use Rattle.ncp_peer.specs.declared.received.Received.TheVariants as received
use Rattle.ncp_peer.specs.Counting.{one_more}
use Rattle.ncp_peer.specs.PeerState.{PeerState, is_answered, after_answer, answer_taken, answer_comes}
use Rattle.ncp_peer.specs.Hearing.{answer_received}

-- the answer to a message, which is stray or is not
module _ (r : Result (Unit {0}) Stray) (on : ℕ) (how : Answer) (s : PeerState) (told : IsOk r ↔ IsTrue (is_answered on s)) where
  pub is_stray : (x : Result (Unit {0}) Stray) (b : Bool) → (IsOk x ↔ IsTrue b) → is_err x ≡ true → b ≡ false
  is_stray (Ok u) b t e = absurd (cc)
  is_stray (Err f) true t e = let ok = t.1 refl in absurd (cc)
  is_stray (Err f) false t e = refl

  pub is_no_stray : (x : Result (Unit {0}) Stray) (b : Bool) → (IsOk x ↔ IsTrue b) → is_err x ≡ false → b ≡ true
  is_no_stray (Ok u) b t e = t.0 refl
  is_no_stray (Err f) b t e = absurd (cc)

  done : {P : Type 0} (x : Result (Unit {0}) Stray) → is_err x ≡ false → OnOk x P → P
  done (Ok u) e p = p
  done (Err f) e p = absurd (cc)

  pub not_done : {P : Type 0} (x : Result (Unit {0}) Stray) → is_err x ≡ true → OnErr x P → P
  not_done (Ok u) e p = absurd (cc)
  not_done (Err f) e p = p

  pub stray_received : is_err r ≡ true → received.Stray ≡ answer_received on s
  stray_received e = sym (ap (λ b. if b then received.Answered else received.Stray) (is_stray r (is_answered on s) told e))

  pub answer_is_received : is_err r ≡ false → received.Answered ≡ answer_received on s
  answer_is_received e = sym (ap (λ b. if b then received.Answered else received.Stray) (is_no_stray r (is_answered on s) told e))

  abbrev one_stray : LinkSlots → ℕ → PeerState
  one_stray slots n = record s { slots = slots; counts = record s.counts { stray = n } }

  pub stray_heard : (slots : LinkSlots) (n : ℕ) → is_err r ≡ true → OnErr r (slots ≡ s.slots) → n ≡ one_more s.counts.stray → one_stray slots n ≡ answer_comes on how s
  stray_heard slots n e same more =
      ap (λ (x : LinkSlots). one_stray x n) (not_done r e same) ∙ ap (λ k. one_stray s.slots k) more
      ∙ sym (ap (λ b. if b then answer_taken on how s else one_stray s.slots (one_more s.counts.stray)) (is_stray r (is_answered on s) told e))

  pub answer_heard : (known : Answer) (slots : LinkSlots) (now : PeerState) → how ≡ known → is_err r ≡ false → OnOk r (slots ≡ with_slot s.slots on (answered how (slot_at s.slots on)))
      → now ≡ record s { slots = slots; peer = after_answer on known slots s.peer } → now ≡ answer_comes on how s
  answer_heard known slots now is e there told_now =
      told_now ∙ ap (λ a. record s { slots = slots; peer = after_answer on a slots s.peer }) (sym is)
      ∙ ap (λ (x : LinkSlots). record s { slots = x; peer = after_answer on how x s.peer }) (done r e there)
      ∙ sym (ap (λ b. if b then answer_taken on how s else one_stray s.slots (one_more s.counts.stray)) (is_no_stray r (is_answered on s) told e))
