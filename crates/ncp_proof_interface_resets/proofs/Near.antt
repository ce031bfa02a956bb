-- The messages that two monitors store, one of which has taken an Incomplete for some that the other takes
-- as outstanding and in doubt.
use Rattle.std.proofs.Common.{◌≡◌, ◌⊎◌, inl, inr, ℕ, zero, suc, ◌+◌, ◌==◌, ltb, Bool, true, false, cond, not, ◌&&◌, ◌||◌, List, [], ◌∷◌, ◌++◌, length, None, Some, position, remove, filter, slice_set, ◌<◌, refl, sym, ap, ◌∙◌, lt-ltb, length-append, arith}
use Rattle.std.specs.List.{list_any, position_or_len}
use Rattle.ncp_interface.specs.declared.sent_message.LinkState.{LinkState}
use Rattle.ncp_interface.specs.declared.sent_message.SentMessage.{SentMessage}
use Rattle.ncp_interface.specs.Slots.{is_slot_empty, is_unknown, is_of, makes_link_busy, kept_at, nothing_kept, is_busy_on, is_slot_out}
use Rattle.ncp_interface.specs.Doubts.{awaits_repeat}
use Rattle.ncp_proof_monitor.proofs.KeptOne.{Placed, placed, middle_get, middle_set}

-- the same message; `l` is to be sent again where `k` is outstanding, of this host, and in doubt
pub record Near (me : ℕ) (k l : SentMessage) : Type 0 where
  pub from : l.from ≡ k.from
  pub to : l.to ≡ k.to
  pub link : l.link ≡ k.link
  pub message : l.message ≡ k.message
  pub slot : (l.slot ≡ k.slot) ⊎ ((k.from ≡ me) × (awaits_repeat k.doubt ≡ true) × (is_slot_out k.slot ≡ true) × (l.slot ≡ LinkState.Again))

abbrev pub NearAll : ℕ → List SentMessage → List SentMessage → Type 0
NearAll me [] [] = Unit {0}
NearAll me [] (l ∷ ls) = ⊥
NearAll me (k ∷ ks) [] = ⊥
NearAll me (k ∷ ks) (l ∷ ls) = Near me k l × NearAll me ks ls

pub near_itself : (me : ℕ) (k : SentMessage) → Near me k k
near_itself me k = record { from = refl; to = refl; link = refl; message = refl; slot = inl refl }

-- ---- one message

out_full : (s : LinkState) → is_slot_out s ≡ true → is_slot_empty s ≡ false
out_full LinkState.Unknown e = absurd (cc)
out_full LinkState.Empty e = absurd (cc)
out_full LinkState.Out e = refl
out_full LinkState.Came e = refl
out_full LinkState.Again e = absurd (cc)

out_known : (s : LinkState) → is_slot_out s ≡ true → is_unknown s ≡ false
out_known LinkState.Unknown e = absurd (cc)
out_known LinkState.Empty e = absurd (cc)
out_known LinkState.Out e = refl
out_known LinkState.Came e = refl
out_known LinkState.Again e = absurd (cc)

pub near_empty : (me : ℕ) (k l : SentMessage) → Near me k l → is_slot_empty l.slot ≡ is_slot_empty k.slot
near_empty me k l n = go n.slot
  where
    go : (l.slot ≡ k.slot) ⊎ ((k.from ≡ me) × (awaits_repeat k.doubt ≡ true) × (is_slot_out k.slot ≡ true) × (l.slot ≡ LinkState.Again)) → is_slot_empty l.slot ≡ is_slot_empty k.slot
    go (inl e) = ap is_slot_empty e
    go (inr w) = ap is_slot_empty w.3 ∙ sym (out_full k.slot w.2)

pub near_unknown : (me : ℕ) (k l : SentMessage) → Near me k l → is_unknown l.slot ≡ is_unknown k.slot
near_unknown me k l n = go n.slot
  where
    go : (l.slot ≡ k.slot) ⊎ ((k.from ≡ me) × (awaits_repeat k.doubt ≡ true) × (is_slot_out k.slot ≡ true) × (l.slot ≡ LinkState.Again)) → is_unknown l.slot ≡ is_unknown k.slot
    go (inl e) = ap is_unknown e
    go (inr w) = ap is_unknown w.3 ∙ sym (out_known k.slot w.2)

-- ---- tests that do not tell them apart

abbrev pub Agrees : ℕ → (SentMessage → Bool) → Type 0
Agrees me p = (k l : SentMessage) → Near me k l → p l ≡ p k

pub agrees_of : (me from to link : ℕ) → Agrees me (is_of from to link)
agrees_of me from to link k l n =
    ap (λ (x : ℕ). x == from && l.to == to && l.link == link) n.from ∙ ap (λ (x : ℕ). k.from == from && x == to && l.link == link) n.to
    ∙ ap (λ (x : ℕ). k.from == from && k.to == to && x == link) n.link

pub agrees_busy : (me from to : ℕ) → Agrees me (makes_link_busy from to)
agrees_busy me from to k l n =
    ap (λ (x : ℕ). x == from && l.to == to && not (l.link == 0) && not (is_slot_empty l.slot)) n.from
    ∙ ap (λ (x : ℕ). k.from == from && x == to && not (l.link == 0) && not (is_slot_empty l.slot)) n.to
    ∙ ap (λ (x : ℕ). k.from == from && k.to == to && not (x == 0) && not (is_slot_empty l.slot)) n.link
    ∙ ap (λ (b : Bool). k.from == from && k.to == to && not (k.link == 0) && not b) (near_empty me k l n)

pub agrees_busy_on : (me from to link : ℕ) → Agrees me (is_busy_on from to link)
agrees_busy_on me from to link k l n =
    ap (λ (b : Bool). b && not (is_slot_empty l.slot)) (agrees_of me from to link k l n) ∙ ap (λ (b : Bool). is_of from to link k && not b) (near_empty me k l n)

-- ---- all messages

pub near_long : (me : ℕ) (ks ls : List SentMessage) → NearAll me ks ls → length ls ≡ length ks
near_long me [] [] a = refl
near_long me [] (l ∷ ls) a = absurd a
near_long me (k ∷ ks) [] a = absurd a
near_long me (k ∷ ks) (l ∷ ls) a = ap (λ (n : ℕ). suc n) (near_long me ks ls a.1)

near_first : (me : ℕ) (p : SentMessage → Bool) → Agrees me p → (ks ls : List SentMessage) → NearAll me ks ls → position_or_len p ls ≡ position_or_len p ks
near_first me p e [] [] a = refl
near_first me p e [] (l ∷ ls) a = absurd a
near_first me p e (k ∷ ks) [] a = absurd a
near_first me p e (k ∷ ks) (l ∷ ls) a =
    ap (λ (b : Bool). cond (not b) (1 + position_or_len p ls) 0) (e k l a.0) ∙ ap (λ (i : ℕ). cond (not (p k)) (1 + i) 0) (near_first me p e ks ls a.1)

pub near_position : (me : ℕ) (p : SentMessage → Bool) → Agrees me p → (ks ls : List SentMessage) → NearAll me ks ls → position p ls ≡ position p ks
near_position me p e ks ls a =
    ap (λ (i : ℕ). cond (ltb i (length ls)) (Some i) None) (near_first me p e ks ls a) ∙ ap (λ (n : ℕ). cond (ltb (position_or_len p ks) n) (Some (position_or_len p ks)) None) (near_long me ks ls a)

pub near_any : (me : ℕ) (p : SentMessage → Bool) → Agrees me p → (ks ls : List SentMessage) → NearAll me ks ls → list_any p ls ≡ list_any p ks
near_any me p e [] [] a = refl
near_any me p e [] (l ∷ ls) a = absurd a
near_any me p e (k ∷ ks) [] a = absurd a
near_any me p e (k ∷ ks) (l ∷ ls) a = ap (λ (b : Bool). b || list_any p ls) (e k l a.0) ∙ ap (λ (b : Bool). p k || b) (near_any me p e ks ls a.1)

pub near_at : (me : ℕ) (ks ls : List SentMessage) → NearAll me ks ls → (i : ℕ) → Near me (kept_at ks i) (kept_at ls i)
near_at me [] [] a i = near_itself me nothing_kept
near_at me [] (l ∷ ls) a i = absurd a
near_at me (k ∷ ks) [] a i = absurd a
near_at me (k ∷ ks) (l ∷ ls) a zero = a.0
near_at me (k ∷ ks) (l ∷ ls) a (suc i) = near_at me ks ls a.1 i

pub near_set : (me : ℕ) (ks ls : List SentMessage) → NearAll me ks ls → (i : ℕ) (k l : SentMessage) → Near me k l → NearAll me (slice_set ks i k) (slice_set ls i l)
near_set me [] [] a i k l n = a
near_set me [] (y ∷ ls) a i k l n = absurd a
near_set me (x ∷ ks) [] a i k l n = absurd a
near_set me (x ∷ ks) (y ∷ ls) a zero k l n = (n, a.1)
near_set me (x ∷ ks) (y ∷ ls) a (suc i) k l n = (a.0, near_set me ks ls a.1 i k l n)

pub near_remove : (me : ℕ) (ks ls : List SentMessage) → NearAll me ks ls → (i : ℕ) → NearAll me (remove ks i) (remove ls i)
near_remove me [] [] a zero = a
near_remove me [] [] a (suc i) = a
near_remove me [] (y ∷ ls) a i = absurd a
near_remove me (x ∷ ks) [] a i = absurd a
near_remove me (x ∷ ks) (y ∷ ls) a zero = a.1
near_remove me (x ∷ ks) (y ∷ ls) a (suc i) = (a.0, near_remove me ks ls a.1 i)

pub near_append : (me : ℕ) (ks ls : List SentMessage) → NearAll me ks ls → (k l : SentMessage) → Near me k l → NearAll me (ks ++ k ∷ []) (ls ++ l ∷ [])
near_append me [] [] a k l n = (n, tt)
near_append me [] (y ∷ ls) a k l n = absurd a
near_append me (x ∷ ks) [] a k l n = absurd a
near_append me (x ∷ ks) (y ∷ ls) a k l n = (a.0, near_append me ks ls a.1 k l n)

-- one of them alone is replaced

pub near_left : (me : ℕ) (ks ls : List SentMessage) → NearAll me ks ls → (i : ℕ) (k : SentMessage) → Near me k (kept_at ls i) → NearAll me (slice_set ks i k) ls
near_left me [] [] a i k n = a
near_left me [] (y ∷ ls) a i k n = absurd a
near_left me (x ∷ ks) [] a i k n = absurd a
near_left me (x ∷ ks) (y ∷ ls) a zero k n = (n, a.1)
near_left me (x ∷ ks) (y ∷ ls) a (suc i) k n = (a.0, near_left me ks ls a.1 i k n)

pub near_right : (me : ℕ) (ks ls : List SentMessage) → NearAll me ks ls → (i : ℕ) (l : SentMessage) → Near me (kept_at ks i) l → NearAll me ks (slice_set ls i l)
near_right me [] [] a i l n = a
near_right me [] (y ∷ ls) a i l n = absurd a
near_right me (x ∷ ks) [] a i l n = absurd a
near_right me (x ∷ ks) (y ∷ ls) a zero l n = (n, a.1)
near_right me (x ∷ ks) (y ∷ ls) a (suc i) l n = (a.0, near_right me ks ls a.1 i l n)

-- ---- the one that is found

pub found_is : (p : SentMessage → Bool) (ks : List SentMessage) (i : ℕ) → position p ks ≡ Some i → p (kept_at ks i) ≡ true
found_is p ks i e = go (placed p ks)
  where
    go : ((position p ks ≡ None) × (filter p ks ≡ [])) ⊎ Placed p ks → p (kept_at ks i) ≡ true
    go (inl none) = let nay : None ≡ Some i = sym none.0 ∙ e in absurd (cc)
    go (inr r) =
        let both_are : Some (length r.before) ≡ Some i = sym r.at ∙ e in
        let here : length r.before ≡ i = cc in
        ap (λ (j : ℕ). p (kept_at ks j)) (sym here) ∙ ap (λ (xs : List SentMessage). p (kept_at xs (length r.before))) r.form ∙ ap p (middle_get r.before r.k r.after) ∙ r.hit

-- a message that replaces it is found in its place
pub found_again : (p : SentMessage → Bool) (ks : List SentMessage) (i : ℕ) (x : SentMessage) → position p ks ≡ Some i → p x ≡ true → position p (slice_set ks i x) ≡ Some i
found_again p ks i x e h = go (placed p ks)
  where
    first : (before after : List SentMessage) → filter p before ≡ [] → position_or_len p (before ++ x ∷ after) ≡ length before
    first [] after n = ap (λ (b : Bool). cond (not b) (1 + position_or_len p after) 0) h
    first (y ∷ before) after n = by (p y) refl n (first before after)
      where
        by : (b : Bool) → p y ≡ b → cond b (y ∷ filter p before) (filter p before) ≡ [] → (filter p before ≡ [] → position_or_len p (before ++ x ∷ after) ≡ length before) → position_or_len p (y ∷ (before ++ x ∷ after)) ≡ suc (length before)
        by true q f later = absurd (cc f)
        by false q f later = ap (λ (b : Bool). cond (not b) (1 + position_or_len p (before ++ x ∷ after)) 0) q ∙ ap (λ (j : ℕ). 1 + j) (later f) ∙ (let e : 1 + length before ≡ suc (length before) = omega arith in e)

    go : ((position p ks ≡ None) × (filter p ks ≡ [])) ⊎ Placed p ks → position p (slice_set ks i x) ≡ Some i
    go (inl none) = let nay : None ≡ Some i = sym none.0 ∙ e in absurd (cc)
    go (inr r) =
        let both_are : Some (length r.before) ≡ Some i = sym r.at ∙ e in
        let here : length r.before ≡ i = cc in
        let now : slice_set ks i x ≡ r.before ++ x ∷ r.after =
        ap (λ (j : ℕ). slice_set ks j x) (sym here) ∙ ap (λ (xs : List SentMessage). slice_set xs (length r.before) x) r.form ∙ middle_set r.before r.k x r.after in
        let long : length r.before < length (r.before ++ x ∷ r.after) = (let l = length-append r.before (x ∷ r.after) in omega (arith, l)) in
        ap (position p) now ∙ ap (λ (j : ℕ). cond (ltb j (length (r.before ++ x ∷ r.after))) (Some j) None) (first r.before r.after r.none)
        ∙ ap (λ (b : Bool). cond b (Some (length r.before)) None) (lt-ltb (length r.before) (length (r.before ++ x ∷ r.after)) long) ∙ both_are

pub set_there : (p : SentMessage → Bool) (ks : List SentMessage) (i : ℕ) (x : SentMessage) → position p ks ≡ Some i → kept_at (slice_set ks i x) i ≡ x
set_there p ks i x e = go (placed p ks)
  where
    go : ((position p ks ≡ None) × (filter p ks ≡ [])) ⊎ Placed p ks → kept_at (slice_set ks i x) i ≡ x
    go (inl none) = let nay : None ≡ Some i = sym none.0 ∙ e in absurd (cc)
    go (inr r) =
        let both_are : Some (length r.before) ≡ Some i = sym r.at ∙ e in
        let here : length r.before ≡ i = cc in
        ap (λ (j : ℕ). kept_at (slice_set ks j x) j) (sym here) ∙ ap (λ (xs : List SentMessage). kept_at (slice_set xs (length r.before) x) (length r.before)) r.form
        ∙ ap (λ (xs : List SentMessage). kept_at xs (length r.before)) (middle_set r.before r.k x r.after) ∙ middle_get r.before x r.after
