-- The messages that are kept of one link, where one is put in, is marked, or is forgotten; those of other links stay.
use Rattle.std.proofs.Common.{◌≡◌, ◌⊎◌, inl, inr, ℕ, suc, ◌+◌, ◌<◌, ltb, Bool, true, false, cond, not, if◌then◌else◌, List, [], ◌∷◌, ◌++◌, length, Option, None, Some, option_map, position, remove, filter, slice_set, refl, sym, ap, ◌∙◌, ltb-true, ltb-false, lt-ltb, le-ltb, append-nil, arith}
use Rattle.std.specs.List.{position_or_len}
use Rattle.ncp_interface.specs.declared.sent_message.SentMessage.{SentMessage}
use Rattle.ncp_interface.specs.declared.sent_messages.TheConstants.{MAX_KEPT}
use Rattle.ncp_interface.specs.Slots.{kept_at, has_room, with_out}

-- ---- a place in the middle

pub middle_set : (before : List SentMessage) (k new : SentMessage) (after : List SentMessage) → slice_set (before ++ k ∷ after) (length before) new ≡ before ++ new ∷ after
middle_set [] k new after = refl
middle_set (x ∷ before) k new after = ap (λ (xs : List SentMessage). x ∷ xs) (middle_set before k new after)

pub middle_get : (before : List SentMessage) (k : SentMessage) (after : List SentMessage) → kept_at (before ++ k ∷ after) (length before) ≡ k
middle_get [] k after = refl
middle_get (x ∷ before) k after = middle_get before k after

pub middle_remove : (before : List SentMessage) (k : SentMessage) (after : List SentMessage) → remove (before ++ k ∷ after) (length before) ≡ before ++ after
middle_remove [] k after = refl
middle_remove (x ∷ before) k after = ap (λ (xs : List SentMessage). x ∷ xs) (middle_remove before k after)

-- ---- the first that passes a test

first_hit : (p : SentMessage → Bool) (x : SentMessage) (xs : List SentMessage) → p x ≡ true → position p (x ∷ xs) ≡ Some 0
first_hit p x xs e =
    ap (λ (b : Bool). cond (ltb (cond (not b) (1 + position_or_len p xs) 0) (suc (length xs))) (Some (cond (not b) (1 + position_or_len p xs) 0)) None) e
    ∙ ap (λ (b : Bool). cond b (Some 0) None) (lt-ltb 0 (suc (length xs)) (omega arith))

first_miss : (p : SentMessage → Bool) (x : SentMessage) (xs : List SentMessage) → p x ≡ false → position p (x ∷ xs) ≡ option_map (λ i. suc i) (position p xs)
first_miss p x xs e =
    ap (λ (b : Bool). cond (ltb (cond (not b) (1 + position_or_len p xs) 0) (suc (length xs))) (Some (cond (not b) (1 + position_or_len p xs) 0)) None) e
    ∙ go (position_or_len p xs) (length xs) (ltb (position_or_len p xs) (length xs)) refl
  where
    go : (i n : ℕ) (b : Bool) → ltb i n ≡ b → cond (ltb (1 + i) (suc n)) (Some (1 + i)) None ≡ option_map (λ j. suc j) (cond b (Some i) None)
    go i n true g =
        let l : i < n = ltb-true i n g in
        let one : 1 + i ≡ suc i = omega arith in
        ap (λ (b : Bool). cond b (Some (1 + i)) None) (lt-ltb (1 + i) (suc n) (omega (arith, l))) ∙ ap (λ (j : ℕ). Some j) one
    go i n false g = let l = ltb-false i n g in ap (λ (b : Bool). cond b (Some (1 + i)) None) (le-ltb (1 + i) (suc n) (omega (arith, l)))

-- it is there, and none before it passes
pub record Placed (p : SentMessage → Bool) (kept : List SentMessage) : Type 0 where
  pub before : List SentMessage
  pub k : SentMessage
  pub after : List SentMessage
  pub form : kept ≡ before ++ k ∷ after
  pub none : filter p before ≡ []
  pub hit : p k ≡ true
  pub at : position p kept ≡ Some (length before)

pub placed : (p : SentMessage → Bool) (kept : List SentMessage) → ((position p kept ≡ None) × (filter p kept ≡ [])) ⊎ Placed p kept
placed p [] = inl (refl, refl)
placed p (x ∷ xs) = go (p x) refl (placed p xs)
  where
    go : (b : Bool) → p x ≡ b → ((position p xs ≡ None) × (filter p xs ≡ [])) ⊎ Placed p xs → ((position p (x ∷ xs) ≡ None) × (filter p (x ∷ xs) ≡ [])) ⊎ Placed p (x ∷ xs)
    go true e rest = inr (record { before = []; k = x; after = xs; form = refl; none = refl; hit = e; at = first_hit p x xs e })
    go false e (inl r) = inl (
      first_miss p x xs e ∙ ap (option_map (λ i. suc i)) r.0,
      ap (λ (b : Bool). cond b (x ∷ filter p xs) (filter p xs)) e ∙ r.1,
    )
    go false e (inr q) = inr (record {
      before = x ∷ q.before;
      k = q.k;
      after = q.after;
      form = ap (λ (ys : List SentMessage). x ∷ ys) q.form;
      none = ap (λ (b : Bool). cond b (x ∷ filter p q.before) (filter p q.before)) e ∙ q.none;
      hit = q.hit;
      at = first_miss p x xs e ∙ ap (option_map (λ i. suc i)) q.at;
    })

-- ---- those that pass it

filter_two : (q : SentMessage → Bool) (xs ys : List SentMessage) → filter q (xs ++ ys) ≡ filter q xs ++ filter q ys
filter_two q [] ys = refl
filter_two q (x ∷ xs) ys = go (q x) (filter_two q xs ys)
  where
    go : (b : Bool) → filter q (xs ++ ys) ≡ filter q xs ++ filter q ys → cond b (x ∷ filter q (xs ++ ys)) (filter q (xs ++ ys)) ≡ cond b (x ∷ filter q xs) (filter q xs) ++ filter q ys
    go true r = ap (λ (zs : List SentMessage). x ∷ zs) r
    go false r = r

skipped : (q : SentMessage → Bool) (before : List SentMessage) (x : SentMessage) (after : List SentMessage) → q x ≡ false → filter q (before ++ x ∷ after) ≡ filter q before ++ filter q after
skipped q before x after e = filter_two q before (x ∷ after) ∙ ap (λ (b : Bool). filter q before ++ cond b (x ∷ filter q after) (filter q after)) e

pub taken : (p : SentMessage → Bool) (before : List SentMessage) (x : SentMessage) (after : List SentMessage) → filter p before ≡ [] → p x ≡ true → filter p (before ++ x ∷ after) ≡ x ∷ filter p after
taken p before x after n e =
    filter_two p before (x ∷ after) ∙ ap (λ (ys : List SentMessage). ys ++ filter p (x ∷ after)) n ∙ ap (λ (b : Bool). cond b (x ∷ filter p after) (filter p after)) e

abbrev pub Apart : (SentMessage → Bool) → (SentMessage → Bool) → Type 0
Apart p q = (k : SentMessage) → p k ≡ true → q k ≡ false

-- the messages that pass are these now, and those that pass another test are what they were
pub record Became (p : SentMessage → Bool) (kept now here : List SentMessage) : Type 0 where
  pub others : (q : SentMessage → Bool) → Apart p q → filter q now ≡ filter q kept
  pub own : filter p now ≡ here

added : (p : SentMessage → Bool) (kept : List SentMessage) (x : SentMessage) → filter p kept ≡ [] → p x ≡ true → Became p kept (kept ++ x ∷ []) (x ∷ [])
added p kept x n e = record {
  others = λ q a. filter_two q kept (x ∷ []) ∙ ap (λ (b : Bool). filter q kept ++ cond b (x ∷ []) []) (a x e) ∙ append-nil (filter q kept);
  own = filter_two p kept (x ∷ []) ∙ ap (λ (ys : List SentMessage). ys ++ filter p (x ∷ [])) n ∙ ap (λ (b : Bool). cond b (x ∷ []) []) e;
}

-- in place of the first one
pub replaced : (p : SentMessage → Bool) (kept : List SentMessage) (r : Placed p kept) (x : SentMessage) → p x ≡ true → Became p kept (r.before ++ x ∷ r.after) (x ∷ filter p r.after)
replaced p kept r x e = record {
  others = λ q a. skipped q r.before x r.after (a x e) ∙ sym (skipped q r.before r.k r.after (a r.k r.hit)) ∙ ap (filter q) (sym r.form);
  own = taken p r.before x r.after r.none e;
}

pub forgotten : (p : SentMessage → Bool) (kept : List SentMessage) (r : Placed p kept) → Became p kept (r.before ++ r.after) (filter p r.after)
forgotten p kept r = record {
  others = λ q a. filter_two q r.before r.after ∙ sym (skipped q r.before r.k r.after (a r.k r.hit)) ∙ ap (filter q) (sym r.form);
  own = filter_two p r.before r.after ∙ ap (λ (ys : List SentMessage). ys ++ filter p r.after) r.none;
}

pub as_list : (p : SentMessage → Bool) (kept now other here : List SentMessage) → now ≡ other → Became p kept other here → Became p kept now here
as_list p kept now other here e b = record { others = λ q a. ap (filter q) e ∙ b.others q a; own = ap (filter p) e ∙ b.own }

-- ---- a message is sent

-- what was kept of its link before, but for the first one
abbrev pub behind : (p : SentMessage → Bool) (kept : List SentMessage) → ((position p kept ≡ None) × (filter p kept ≡ [])) ⊎ Placed p kept → List SentMessage
behind p kept (inl none) = []
behind p kept (inr r) = filter p r.after

pub put_out : (p : SentMessage → Bool) (kept : List SentMessage) (x : SentMessage) (w : ((position p kept ≡ None) × (filter p kept ≡ [])) ⊎ Placed p kept) → p x ≡ true → has_room kept (position p kept) ≡ true
    → Became p kept (with_out kept (position p kept) x) (x ∷ behind p kept w)
put_out p kept x (inl none) e room =
    let fits : ltb (length kept) MAX_KEPT ≡ true = ap (has_room kept) (sym none.0) ∙ room in
    as_list p kept (with_out kept (position p kept) x) (kept ++ x ∷ []) (x ∷ [])
    (ap (λ (o : Option ℕ). with_out kept o x) none.0 ∙ ap (λ (b : Bool). if b then kept ++ x ∷ [] else kept) fits)
    (added p kept x none.1 e)
put_out p kept x (inr r) e room =
    as_list p kept (with_out kept (position p kept) x) (r.before ++ x ∷ r.after) (x ∷ filter p r.after)
    (ap (λ (o : Option ℕ). with_out kept o x) r.at ∙ ap (λ (xs : List SentMessage). slice_set xs (length r.before) x) r.form ∙ middle_set r.before r.k x r.after)
    (replaced p kept r x e)
