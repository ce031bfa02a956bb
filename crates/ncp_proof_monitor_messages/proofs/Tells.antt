-- The state kept for a link determines what the subnet has for it: a message in flight, or one that
-- arrived.
use Rattle.std.proofs.Common.{◌≡◌, ◌⊎◌, inl, inr, ℕ, ◌==◌, Bool, true, false, not, if◌then◌else◌, List, [], ◌∷◌, ◌++◌, length, Option, None, Some, position, remove, filter, slice_set, refl, sym, ap, ◌∙◌, subst}
use Rattle.ncp_subnet.specs.declared.transit.Transit.TheVariants.{Free, Accepted, Delivered, Lost, Dead}
use Rattle.ncp_subnet.specs.Transit.{is_free, answer_kind}
use Rattle.ncp_subnet.specs.Ways.{OnLink}
use Rattle.ncp_interface.specs.declared.sent_message.SentMessage.{SentMessage}
use Rattle.ncp_interface.specs.declared.sent_message.LinkState.{LinkState}
use Rattle.ncp_interface.specs.Slots.{is_of, same_but_host, same_but_host_at, position_of, kept_at, kept_slot, gone_out, has_room, with_out, with_kept_slot, with_answered, is_slot_out, with_answer}
use Rattle.ncp_monitor.specs.Judged.{false_rule, stray_rule, unsent_why, with_coming}
use Rattle.ncp_proof_monitor.proofs.KeptOne.{middle_set, middle_get, middle_remove, Placed, placed, taken, replaced, forgotten, as_list, behind, put_out}
use Rattle.ncp_proof_monitor.proofs.Shown.{of_itself}

-- of the one message that is kept
abbrev pub ReportsOne : OnLink → LinkState → List Bool → Type 0
ReportsOne Free k m = is_slot_out k ≡ false
ReportsOne (Accepted n) k m = (k ≡ LinkState.Out) × (m ≡ n)
ReportsOne Delivered k m = k ≡ LinkState.Came
ReportsOne Lost k m = k ≡ LinkState.Out
ReportsOne Dead k m = k ≡ LinkState.Out

-- of what is kept of the link
abbrev pub Tells : OnLink → List SentMessage → Type 0
Tells t [] = is_free t ≡ true
Tells t (k ∷ []) = ReportsOne t k.slot k.message
Tells t (k ∷ other ∷ more) = ⊥

only : (t : OnLink) (k : SentMessage) (rest : List SentMessage) → Tells t (k ∷ rest) → (rest ≡ []) × ReportsOne t k.slot k.message
only t k [] h = (refl, h)
only t k (other ∷ more) h = absurd h

-- ---- a message is sent

-- what is kept of a link on which nothing is in transit is not out
pub not_out : (known : Bool) (kept : List SentMessage) (p : SentMessage → Bool) → Tells Free (filter p kept) → is_slot_out (kept_slot known kept (position p kept)) ≡ false
not_out known kept p h = go (placed p kept)
  where
    none_kept : (b : Bool) → is_slot_out (if b then LinkState.Empty else LinkState.Unknown) ≡ false
    none_kept true = refl
    none_kept false = refl

    go : ((position p kept ≡ None) × (filter p kept ≡ [])) ⊎ Placed p kept → is_slot_out (kept_slot known kept (position p kept)) ≡ false
    go (inl none) = ap (λ (o : Option ℕ). is_slot_out (kept_slot known kept o)) none.0 ∙ none_kept known
    go (inr r) =
        let is : kept_at kept (length r.before) ≡ r.k = ap (λ (xs : List SentMessage). kept_at xs (length r.before)) r.form ∙ middle_get r.before r.k r.after in
        let all : filter p kept ≡ r.k ∷ filter p r.after = ap (filter p) r.form ∙ taken p r.before r.k r.after r.none r.hit in
        ap (λ (o : Option ℕ). is_slot_out (kept_slot known kept o)) r.at ∙ ap (λ (k : SentMessage). is_slot_out k.slot) is ∙ (only Free r.k (filter p r.after) (subst (Tells Free) all h)).1

pub after_going : (from to on : ℕ) (kept : List SentMessage) (bits : List Bool) → Tells Free (filter (is_of from to on) kept) → has_room kept (position_of from to on kept) ≡ true
    → Tells (Accepted bits) (filter (is_of from to on) (with_out kept (position_of from to on kept) (gone_out from to on bits)))
after_going from to on kept bits h room = go (placed p kept)
  where
    p : SentMessage → Bool
    p = is_of from to on

    x : SentMessage
    x = gone_out from to on bits

    none_following : (w : ((position p kept ≡ None) × (filter p kept ≡ [])) ⊎ Placed p kept) → behind p kept w ≡ []
    none_following (inl none) = refl
    none_following (inr r) =
        let all : filter p kept ≡ r.k ∷ filter p r.after = ap (filter p) r.form ∙ taken p r.before r.k r.after r.none r.hit in
        (only Free r.k (filter p r.after) (subst (Tells Free) all h)).0

    go : ((position p kept ≡ None) × (filter p kept ≡ [])) ⊎ Placed p kept → Tells (Accepted bits) (filter p (with_out kept (position p kept) x))
    go w =
        let b = put_out p kept x w (of_itself from to on bits) room in
        subst (Tells (Accepted bits)) (sym (b.own ∙ ap (λ (xs : List SentMessage). x ∷ xs) (none_following w))) (refl, refl)

-- ---- what is in transit has its place

record Kept_there (p : SentMessage → Bool) (kept : List SentMessage) (t : OnLink) : Type 0 where
  r : Placed p kept
  is : kept_at kept (length r.before) ≡ r.k
  alone : filter p r.after ≡ []
  tells : ReportsOne t r.k.slot r.k.message

there : (p : SentMessage → Bool) (kept : List SentMessage) (t : OnLink) → is_free t ≡ false → Tells t (filter p kept) → Kept_there p kept t
there p kept t f h = go (placed p kept)
  where
    go : ((position p kept ≡ None) × (filter p kept ≡ [])) ⊎ Placed p kept → Kept_there p kept t
    go (inl none) = let nay : false ≡ true = sym f ∙ subst (Tells t) none.1 h in absurd (cc)
    go (inr r) =
        let all : filter p kept ≡ r.k ∷ filter p r.after = ap (filter p) r.form ∙ taken p r.before r.k r.after r.none r.hit in
        let o = only t r.k (filter p r.after) (subst (Tells t) all h) in
        record { r = r; is = ap (λ (xs : List SentMessage). kept_at xs (length r.before)) r.form ∙ middle_get r.before r.k r.after; alone = o.0; tells = o.1 }

-- with another slot
-- the test does not look at the slot
abbrev pub Blind : (SentMessage → Bool) → Type 0
Blind p = (k : SentMessage) (s : LinkState) → p k ≡ true → p (record k { slot = s }) ≡ true

marked : (p : SentMessage → Bool) → Blind p → (kept : List SentMessage) (t now : OnLink) (to : LinkState) (k : Kept_there p kept t) → ReportsOne now to k.r.k.message → Tells now (filter p (with_kept_slot kept (length k.r.before) to))
marked p blind kept t now to k e =
    let r = k.r in
    let new : SentMessage = record r.k { slot = to } in
    let form : with_kept_slot kept (length r.before) to ≡ r.before ++ new ∷ r.after =
    ap (λ (y : SentMessage). slice_set kept (length r.before) (record y { slot = to })) k.is
    ∙ ap (λ (xs : List SentMessage). slice_set xs (length r.before) new) r.form
    ∙ middle_set r.before r.k new r.after in
    let b = as_list p kept (with_kept_slot kept (length r.before) to) (r.before ++ new ∷ r.after) (new ∷ filter p r.after) form (replaced p kept r new (blind r.k to r.hit)) in
    subst (Tells now) (sym (b.own ∙ ap (λ (xs : List SentMessage). new ∷ xs) k.alone)) e

-- ---- it comes

pub record Comes (p : SentMessage → Bool) (kept : List SentMessage) (bits : List Bool) : Type 0 where
  pub none : unsent_why (kept_slot true kept (position p kept)) (same_but_host_at kept (position p kept) bits) ≡ None
  pub tells : Tells Delivered (filter p (with_coming kept (position p kept)))

pub coming : (p : SentMessage → Bool) → Blind p → (kept : List SentMessage) (m bits : List Bool) → Tells (Accepted m) (filter p kept) → same_but_host m bits ≡ true → Comes p kept bits
coming p blind kept m bits h same = go (there p kept (Accepted m) refl h)
  where
    go : Kept_there p kept (Accepted m) → Comes p kept bits
    go k =
        let r = k.r in
        record {
          none =
              ap (λ (o : Option ℕ). unsent_why (kept_slot true kept o) (same_but_host_at kept o bits)) r.at
              ∙ ap (λ (y : SentMessage). unsent_why y.slot (same_but_host y.message bits)) k.is
              ∙ ap (λ (s : LinkState). unsent_why s (same_but_host r.k.message bits)) k.tells.0
              ∙ ap (λ (x : List Bool). unsent_why LinkState.Out (same_but_host x bits)) k.tells.1
              ∙ ap (unsent_why LinkState.Out) same;
          tells =
              subst (λ (o : Option ℕ). Tells Delivered (filter p (with_coming kept o))) (sym r.at)
              (subst (λ (b : Bool). Tells Delivered (filter p (if b then with_kept_slot kept (length r.before) LinkState.Came else kept))) (sym (ap (λ (y : SentMessage). is_slot_out y.slot) k.is ∙ ap is_slot_out k.tells.0))
              (marked p blind kept (Accepted m) Delivered LinkState.Came k refl));
        }

-- ---- it is answered

pub record Answered (p : SentMessage → Bool) (kept : List SentMessage) (kind : ℕ) : Type 0 where
  pub true_one : (known : Bool) (host link : ℕ) → false_rule (kept_slot known kept (position p kept)) kind host link ≡ None
  pub out : (known : Bool) (link : ℕ) → stray_rule (kept_slot known kept (position p kept)) kind link ≡ None
  pub tells : (known : Bool) → Tells Free (filter p (with_answer known kind kept (position p kept)))

answered_as : (p : SentMessage → Bool) → Blind p → (kept : List SentMessage) (t : OnLink) (kind : ℕ) (s : LinkState) → is_free t ≡ false → Tells t (filter p kept) → ((k : LinkState) (m : List Bool) → ReportsOne t k m → k ≡ s)
    → is_slot_out s ≡ true → ((host link : ℕ) → false_rule s kind host link ≡ None) → ((link : ℕ) → stray_rule s kind link ≡ None) → Answered p kept kind
answered_as p blind kept t kind s f h is_s out_s no_false no_stray = go (there p kept t f h)
  where
    go : Kept_there p kept t → Answered p kept kind
    go k = record {
      true_one = λ known host link. ap (λ (x : LinkState). false_rule x kind host link) (slot_is known) ∙ no_false host link;
      out = λ known link. ap (λ (x : LinkState). stray_rule x kind link) (slot_is known) ∙ no_stray link;
      tells = λ known.
          subst (λ (o : Option ℕ). Tells Free (filter p (with_answer known kind kept o))) (sym r.at)
          (subst (λ (b : Bool). Tells Free (filter p (if not b then kept else if kind == 5 then with_answered known kept (length r.before) else with_kept_slot kept (length r.before) LinkState.Again))) (sym (ap (λ (y : SentMessage). is_slot_out y.slot) k.is ∙ ap is_slot_out one ∙ out_s))
          (by (kind == 5) known));
    }
      where
        r : Placed p kept
        r = k.r

        one : r.k.slot ≡ s
        one = is_s r.k.slot r.k.message k.tells

        slot_is : (known : Bool) → kept_slot known kept (position p kept) ≡ s
        slot_is known = ap (kept_slot known kept) r.at ∙ ap (λ (y : SentMessage). y.slot) k.is ∙ one

        by : (b known : Bool) → Tells Free (filter p (if b then (if known then remove kept (length r.before) else with_kept_slot kept (length r.before) LinkState.Empty) else with_kept_slot kept (length r.before) LinkState.Again))
        by false known = marked p blind kept t Free LinkState.Again k refl
        by true false = marked p blind kept t Free LinkState.Empty k refl
        by true true =
            let b = as_list p kept (remove kept (length r.before)) (r.before ++ r.after) (filter p r.after) (ap (λ (xs : List SentMessage). remove xs (length r.before)) r.form ∙ middle_remove r.before r.k r.after) (forgotten p kept r) in
            subst (Tells Free) (sym (b.own ∙ k.alone)) refl

-- with the answer that the subnet gives
pub answered : (p : SentMessage → Bool) → Blind p → (kept : List SentMessage) (t : OnLink) (kind : ℕ) → answer_kind t ≡ Some kind → Tells t (filter p kept) → Answered p kept kind
answered p blind kept Free kind e h = absurd (cc)
answered p blind kept (Accepted m) kind e h = absurd (cc)
answered p blind kept Delivered kind e h =
    let is : 5 ≡ kind = cc in
    subst (λ (k : ℕ). Answered p kept k) is (answered_as p blind kept Delivered 5 LinkState.Came refl h (λ k m x. x) refl (λ host link. refl) (λ link. refl))
answered p blind kept Lost kind e h =
    let is : 9 ≡ kind = cc in
    subst (λ (k : ℕ). Answered p kept k) is (answered_as p blind kept Lost 9 LinkState.Out refl h (λ k m x. x) refl (λ host link. refl) (λ link. refl))
answered p blind kept Dead kind e h =
    let is : 7 ≡ kind = cc in
    subst (λ (k : ℕ). Answered p kept k) is (answered_as p blind kept Dead 7 LinkState.Out refl h (λ k m x. x) refl (λ host link. refl) (λ link. refl))
