-- On which links no message is ready: what tells it, and what keeps it.
use Rattle.std.proofs.Common.{◌≡◌, inl, inr, ℕ, zero, suc, ◌==◌, ◌≤◌, ◌<◌, Bool, true, false, if◌then◌else◌, List, [], ◌∷◌, Option, None, Some, IfSome, is_some, refl, sym, ap, subst, ◌∙◌, arith}
use Rattle.std.proofs.lemmas.Bool.Decides.{eqb_tells}
use Rattle.std.specs.List.{slice_get}
use Rattle.ncp_wire.specs.declared.command.Command.{Command}
use Rattle.ncp_slot.specs.declared.slot.Slot.TheVariants.{Empty, Ready, Travelling, Held}
use Rattle.ncp_wire.specs.declared.answer.Answer.{Answer}
use Rattle.ncp_slot.specs.Slot.{is_empty, is_ready, answered}
use Rattle.ncp_slot.specs.Slots.{LinkSlot, LinkSlots, OtherSlotsStay, slot_at, with_slot, is_quiet}
use Rattle.ncp_slot.proofs.Places.{is_quiet-tells, slot_at-changed, OthersStay-changed}
use Rattle.ncp_model.specs.Effect.{answer}
use Rattle.ncp_model.specs.Ends.{cut_in}
use Rattle.ncp_model.specs.Sending.{next_commands}
use Rattle.ncp_conn.specs.Links.{is_in, IsLowestIfAny}
use Rattle.ncp_conn.specs.Cutting.{may_cut, next_cut}
use Rattle.ncp_conn.proofs.Cutting.{PassedBy, passed_by_first}
use Rattle.ncp_peer.specs.PeerState.{PeerState, control_link}
use Rattle.ncp_peer.specs.Output.{control_message, text_message, made_on, output_by}
use Rattle.ncp_peer.specs.Silence.{HasReady, HasKept, AreMarked, IsSilent, SilentFrom, lower_of}
use Rattle.ncp_peer.proofs.Cutting.{not_cut}

-- no message is to go out again on a link that is not in the set
not_again : (links : ℕ) (slots : LinkSlots) (on : ℕ) → HasReady links slots → on ≤ 71 → is_in links on ≡ false → is_ready (slot_at slots on) ≡ false
not_again links slots on has l out = go (is_ready (slot_at slots on)) refl
  where
    go : (b : Bool) → is_ready (slot_at slots on) ≡ b → is_ready (slot_at slots on) ≡ false
    go false e = e
    go true e = let both : true ≡ false = sym (has on l e) ∙ out in absurd (cc)

by_slot : (slot : LinkSlot) (number on : ℕ) (s : PeerState) → is_ready slot ≡ false → made_on number on s.peer ≡ None → output_by slot number on s.peer ≡ None
by_slot Empty number on s e made = made
by_slot (Ready m) number on s e made = absurd (cc)
by_slot (Travelling m) number on s e made = refl
by_slot (Held m) number on s e made = refl

-- on a data link no message is ready where none is to go out again and no text may be cut
silent : (s : PeerState) (on : ℕ) → control_link < on → is_ready (slot_at s.slots on) ≡ false → may_cut s.peer.ends on ≡ false → IsSilent on s
silent s on l e h number = by_slot (slot_at s.slots on) number on s e made
  where
    made : made_on number on s.peer ≡ None
    made =
        let z : (on == control_link) ≡ false = grind arith in
        ap (λ b. if b then control_message number (next_commands s.peer.phase.waiting) else text_message number on (answer (cut_in on s.peer.ends))) z
        ∙ ap (λ o. text_message number on o) (not_cut (answer (cut_in on s.peer.ends)) h)

no_commands : (cs : List Command) → is_some (slice_get cs 0) ≡ false → next_commands cs ≡ []
no_commands [] h = refl
no_commands (c ∷ cs) h = absurd (cc)

-- on the control link none is ready where no command waits
pub silent_control : (s : PeerState) → is_empty (slot_at s.slots control_link) ≡ true → is_some (slice_get s.peer.phase.waiting 0) ≡ false → IsSilent control_link s
silent_control s e h number = by_slot (slot_at s.slots control_link) number control_link s (not_ready (slot_at s.slots control_link) e) (ap (λ cs. control_message number cs) (no_commands s.peer.phase.waiting h))
  where
    not_ready : (slot : LinkSlot) → is_empty slot ≡ true → is_ready slot ≡ false
    not_ready Empty e = refl
    not_ready (Ready m) e = absurd (cc)
    not_ready (Travelling m) e = refl
    not_ready (Held m) e = refl

-- the next link is the lower of the next on which one is to go out again and the next on which a text may be cut
pub silent_to_next : (s : PeerState) (links from : ℕ) (again cut : Option ℕ) → control_link < from → HasReady links s.slots → IsLowestIfAny links from again → IfSome again (λ on. on ≤ 71) → cut ≡ next_cut from s.peer.ends → SilentFrom from (lower_of again cut) s
silent_to_next s links from again cut l has is last told = go again cut is last (passed_by_first (may_cut s.peer.ends) 71 from cut told)
  where
    one : (on : ℕ) → from ≤ on → on ≤ 71 → is_in links on ≡ false → may_cut s.peer.ends on ≡ false → IsSilent on s
    one on a b out no_text = silent s on (omega arith) (not_again links s.slots on has b out) no_text

    go : (again cut : Option ℕ) → IsLowestIfAny links from again → IfSome again (λ on. on ≤ 71) → PassedBy (may_cut s.peer.ends) 71 from cut → SilentFrom from (lower_of again cut) s
    go None None is last cuts = λ on a b. one on a b (is on a) (cuts on a b)
    go None (Some c) is last cuts = record { least = cuts.0; last = cuts.1; between = λ on a b. let top = cuts.1 in one on a (omega arith) (is on a) (cuts.2 on a b) }
    go (Some g) None is last cuts = record { least = is.least; last = last; between = λ on a b. let top = last in one on a (omega arith) (is.lower on a b) (cuts on a (omega arith)) }
    go (Some g) (Some c) is last cuts =
        let above = is.least in
        let over = cuts.0 in
        let top = cuts.1 in
        record {
          least = omega arith;
          last = omega arith;
          between = λ on a b. one on a (omega arith) (is.lower on a (omega arith)) (cuts.2 on a (omega arith));
        }

none_there : (o : Option ℕ) → is_some o ≡ false → o ≡ None
none_there None h = refl
none_there (Some on) h = absurd (cc)

-- nothing is ready where no message is to go out again, no text may be cut and no command waits
pub silent_where_idle : (s : PeerState) (links : ℕ) (again cut : Option ℕ) → HasReady links s.slots → IsLowestIfAny links 0 again → is_some again ≡ false → cut ≡ next_cut 0 s.peer.ends → is_some cut ≡ false → is_some (slice_get s.peer.phase.waiting 0) ≡ false → SilentFrom 0 None s
silent_where_idle s links again cut has is no_again told no_text no_command = λ on low high. at on high
  where
    ready : (on : ℕ) → on ≤ 71 → is_ready (slot_at s.slots on) ≡ false
    ready on high =
        let out : IsLowestIfAny links 0 None = subst (λ (o : Option ℕ). IsLowestIfAny links 0 o) (none_there again no_again) is in
        not_again links s.slots on has high (out on (omega arith))

    uncut : PassedBy (may_cut s.peer.ends) 71 0 None
    uncut = subst (PassedBy (may_cut s.peer.ends) 71 0) (none_there cut no_text) (passed_by_first (may_cut s.peer.ends) 71 0 cut told)

    at : (on : ℕ) → on ≤ 71 → IsSilent on s
    at zero high number = by_slot (slot_at s.slots control_link) number control_link s (ready control_link high) (ap (λ cs. control_message number cs) (no_commands s.peer.phase.waiting no_command))
    at (suc on) high number = silent s (suc on) (omega arith) (ready (suc on) high) (uncut (suc on) (omega arith) high) number

-- Whether the data links are quiet.

pub quiet_where_none : (slots : LinkSlots) (links : ℕ) → HasKept links slots → ((on : ℕ) → 2 ≤ on → is_in links on ≡ false) → is_quiet slots ≡ true
quiet_where_none slots links has none = (is_quiet-tells slots).1 (λ on low high. go on low high (slot_at slots on) refl)
  where
    full : {P : Type 0} → (on : ℕ) → 2 ≤ on → on ≤ 71 → is_empty (slot_at slots on) ≡ false → P
    full on low high f = let both : true ≡ false = sym (has on low high f) ∙ none on low in absurd (cc)

    go : (on : ℕ) → 2 ≤ on → on ≤ 71 → (slot : LinkSlot) → slot_at slots on ≡ slot → slot_at slots on ≡ Empty
    go on low high Empty e = e
    go on low high (Ready m) e = full on low high (ap is_empty e)
    go on low high (Travelling m) e = full on low high (ap is_empty e)
    go on low high (Held m) e = full on low high (ap is_empty e)

pub not_quiet : (slots : LinkSlots) (on : ℕ) → 2 ≤ on → on ≤ 71 → is_empty (slot_at slots on) ≡ false → is_quiet slots ≡ false
not_quiet slots on low high full = go (is_quiet slots) refl
  where
    go : (b : Bool) → is_quiet slots ≡ b → is_quiet slots ≡ false
    go false e = e
    go true e = let both : true ≡ false = sym (ap is_empty ((is_quiet-tells slots).0 e on low high)) ∙ full in absurd (cc)

-- a message goes out on a link, which may have one now
pub marked_sent : (kept now again : ℕ) (before after : LinkSlots) (on : ℕ) (message : List Bool) → AreMarked kept again before → after ≡ with_slot before on (Travelling message) → ((link : ℕ) → is_in now link ≡ (if link == on then true else is_in kept link)) → AreMarked now again after
marked_sent kept now again before after on message marked sent inserted = record {
  has_kept = λ link low high full. elim (eqb_tells link on) [
    | inl e ↦ inserted link ∙ ap (λ (b : Bool). if b then true else is_in kept link) e.0
    | inr d ↦ inserted link ∙ ap (λ (b : Bool). if b then true else is_in kept link) d.0 ∙ marked.has_kept link low high (sym (ap is_empty (OthersStay-changed after before on (Travelling message) sent link d.1)) ∙ full)
  ];
  has_ready = λ link high ready. elim (eqb_tells link on) [
    | inl e ↦ (let there : is_ready (slot_at after link) ≡ false = ap (λ (k : ℕ). is_ready (slot_at after k)) e.1 ∙ ap is_ready (slot_at-changed after before on (Travelling message) sent) in let both : true ≡ false = sym ready ∙ there in absurd (cc))
    | inr d ↦ marked.has_ready link high (sym (ap is_ready (OthersStay-changed after before on (Travelling message) sent link d.1)) ∙ ready)
  ];
}

emptied : (how : Answer) (slot : LinkSlot) → is_empty (answered how slot) ≡ false → is_empty slot ≡ false
emptied how Empty e = e
emptied how (Ready m) e = refl
emptied how (Travelling m) e = refl
emptied how (Held m) e = refl

-- an answer comes to the message on a link, which may be to go out again now
pub marked_again : (kept again now : ℕ) (before after : LinkSlots) (on : ℕ) (how : Answer) → AreMarked kept again before → slot_at after on ≡ answered how (slot_at before on) → OtherSlotsStay before after on → ((link : ℕ) → is_in now link ≡ (if link == on then true else is_in again link)) → AreMarked kept now after
marked_again kept again now before after on how marked there others inserted = record {
  has_kept = λ link low high full. elim (eqb_tells link on) [
    | inl e ↦ marked.has_kept link low high (ap (λ (k : ℕ). is_empty (slot_at before k)) e.1 ∙ emptied how (slot_at before on) (sym (ap is_empty there) ∙ sym (ap (λ (k : ℕ). is_empty (slot_at after k)) e.1) ∙ full))
    | inr d ↦ marked.has_kept link low high (sym (ap is_empty (others link d.1)) ∙ full)
  ];
  has_ready = λ link high ready. elim (eqb_tells link on) [
    | inl e ↦ inserted link ∙ ap (λ (b : Bool). if b then true else is_in again link) e.0
    | inr d ↦ inserted link ∙ ap (λ (b : Bool). if b then true else is_in again link) d.0 ∙ marked.has_ready link high (sym (ap is_ready (others link d.1)) ∙ ready)
  ];
}

not_ready : (slot : LinkSlot) → is_empty slot ≡ true → is_ready slot ≡ true → ⊥
not_ready Empty e r = absurd (cc r)
not_ready (Ready m) e r = absurd (cc e)
not_ready (Travelling m) e r = absurd (cc e)
not_ready (Held m) e r = absurd (cc e)

-- a link without a message need not be in the sets
pub marked_over : (kept again kept_now again_now : ℕ) (slots : LinkSlots) (on : ℕ) → AreMarked kept again slots → is_empty (slot_at slots on) ≡ true → ((link : ℕ) → is_in kept_now link ≡ (if link == on then false else is_in kept link)) → ((link : ℕ) → is_in again_now link ≡ (if link == on then false else is_in again link)) → AreMarked kept_now again_now slots
marked_over kept again kept_now again_now slots on marked none k a = record {
  has_kept = λ link low high full. elim (eqb_tells link on) [
    | inl e ↦ (let both : true ≡ false = sym (ap (λ (n : ℕ). is_empty (slot_at slots n)) e.1 ∙ none) ∙ full in absurd (cc))
    | inr d ↦ k link ∙ ap (λ (b : Bool). if b then false else is_in kept link) d.0 ∙ marked.has_kept link low high full
  ];
  has_ready = λ link high ready. elim (eqb_tells link on) [
    | inl e ↦ absurd (not_ready (slot_at slots link) (ap (λ (n : ℕ). is_empty (slot_at slots n)) e.1 ∙ none) ready)
    | inr d ↦ a link ∙ ap (λ (b : Bool). if b then false else is_in again link) d.0 ∙ marked.has_ready link high ready
  ];
}
