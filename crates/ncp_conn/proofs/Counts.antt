-- How many entries pass a test, and the first that does: in the list and in the map.
use Rattle.std.proofs.Common.{◌≡◌, ℕ, zero, suc, ◌+◌, ◌≤◌, Bool, true, false, cond, not, List, [], ◌∷◌, Option, Some, None, refl, sym, ap, ◌∙◌, arith}
use Rattle.std.specs.Prelude.{slice_get, slice_set, length}
use Rattle.std.specs.declared.cmp.Ordering.{Ordering}
use Rattle.std.specs.declared.cmp.Ordering.TheVariants.{Less, Equal, Greater}
use Rattle.std.specs.List.{count_by, remove}
use Rattle.std.specs.Ordering.{is_eq}
use Rattle.std.specs.FinMap.{empty, len-entries, len-empty, find, put, entries, from_entries, entries-insert, get-entries, get-from_entries}
use Rattle.std.specs.FinMap.Entries.{by_order}
use Rattle.std.proofs.lemmas.List.Sums.{count_by-le-length, sum_by-cons}
use Rattle.ncp_model.specs.declared.pair.Pair.{Pair}
use Rattle.ncp_model.specs.Pairs.{pair_cmp}
use Rattle.ncp_model.specs.Endpoint.{Endpoint}
use Rattle.ncp_model.specs.Ends.{count, has_asked, is_by_peer, first_by}
use Rattle.ncp_model.proofs.PairOrder.{pairs_total}
use Rattle.slab.specs.Slab.{entries_from}
use Rattle.ncp_conn.specs.Entries.{AreEntries}
use Rattle.ncp_conn.proofs.Slabs.{vals}

abbrev pub one : Bool → ℕ
one b = cond b 1 0

pub count_cons : {A : Type 0} (p : A → Bool) (x : A) (xs : List A) → count_by p (x ∷ xs) ≡ one (p x) + count_by p xs
count_cons p x xs = sum_by-cons (λ y. one (p y)) x xs

pub count_set : {A : Type 0} (p : A → Bool) (es : List A) (i : ℕ) (x y : A) → slice_get es i ≡ Some x → count_by p (slice_set es i y) + one (p x) ≡ count_by p es + one (p y)
count_set p [] i x y is = absurd (cc)
count_set p (z ∷ es) zero x y is = let same : z ≡ x = cc in rw (count_cons p y es, count_cons p z es, same) (omega arith)
count_set p (z ∷ es) (suc i) x y is = let h = count_set p es i x y is in rw (count_cons p z (slice_set es i y), count_cons p z es) (omega arith)

pub count_remove : {A : Type 0} (p : A → Bool) (es : List A) (i : ℕ) (x : A) → slice_get es i ≡ Some x → count_by p (remove es i) + one (p x) ≡ count_by p es
count_remove p [] i x is = absurd (cc)
count_remove p (z ∷ es) zero x is = let same : z ≡ x = cc in rw (count_cons p z es, same) (omega arith)
count_remove p (z ∷ es) (suc i) x is = let h = count_remove p es i x is in rw (count_cons p z (remove es i), count_cons p z es) (omega arith)

count_put : (p : Pair × Endpoint → Bool) (es : List (Pair × Endpoint)) (k : Pair) (e : Endpoint) → find pair_cmp k es ≡ None → count_by p (put pair_cmp k e es) ≡ one (p (k, e)) + count_by p es
count_put p [] k e none = count_cons p (k, e) []
count_put p (x ∷ es) k e none = go (pair_cmp k x.0) none (λ g. count_put p es k e g)
  where
    go : (r : Ordering) → cond (is_eq r) (Some x.1) (find pair_cmp k es) ≡ None → (find pair_cmp k es ≡ None → count_by p (put pair_cmp k e es) ≡ one (p (k, e)) + count_by p es) → count_by p (by_order r ((k, e) ∷ x ∷ es) ((x.0, e) ∷ es) (x ∷ put pair_cmp k e es)) ≡ one (p (k, e)) + count_by p (x ∷ es)
    go Less g rest = count_cons p (k, e) (x ∷ es)
    go Equal g rest = absurd (cc)
    go Greater g rest = let i : count_by p (put pair_cmp k e es) ≡ one (p (k, e)) + count_by p es = rest g in rw (count_cons p x (put pair_cmp k e es), count_cons p x es) (omega arith)

count_empty : (p : Pair × Endpoint → Bool) → count p empty ≡ 0
count_empty p = let h : length (entries (empty {X = Endpoint} {R = pair_cmp})) ≡ 0 = sym (len-entries (empty {X = Endpoint} {R = pair_cmp})) ∙ len-empty pair_cmp Endpoint in omega (arith, h, count_by-le-length p (entries (empty {X = Endpoint} {R = pair_cmp})))

-- what is counted in the map is counted in the list
pub count_is : (p : Pair × Endpoint → Bool) (es : List (Pair × Endpoint)) → AreEntries es → count p (from_entries es) ≡ count_by p es
count_is p [] are = count_empty p
count_is p (x ∷ es) are =
    ap (count_by p) (entries-insert pairs_total (from_entries es) x.0 x.1)
    ∙ count_put p (entries (from_entries es)) x.0 x.1 (sym (get-entries (from_entries es) x.0) ∙ get-from_entries pairs_total es x.0 ∙ are.0)
    ∙ ap (λ n. one (p x) + n) (count_is p es are.2)
    ∙ sym (count_cons p x es)

pub count_both : (es : List (Pair × Endpoint)) → count_by has_asked es + count_by is_by_peer es ≡ length es
count_both [] = refl
count_both (x ∷ es) = let h = count_both es in rw (count_cons has_asked x es, count_cons is_by_peer x es) (go x.1.asked h)
  where
    go : (b : Bool) → count_by has_asked es + count_by is_by_peer es ≡ length es → (one b + count_by has_asked es) + (one (not b) + count_by is_by_peer es) ≡ length (x ∷ es)
    go true h = omega (arith, h)
    go false h = omega (arith, h)

-- the first that passes

abbrev Test : Type 0
Test = Pair × Endpoint → Bool

pub first_none : (p : Test) (es : List (Pair × Endpoint)) → count_by p es ≡ 0 → first_by p es ≡ None
first_none p [] h = refl
first_none p (x ∷ es) h = go (p x) refl (first_none p es)
  where
    go : (b : Bool) → p x ≡ b → (count_by p es ≡ 0 → first_by p es ≡ None) → cond b (Some x) (first_by p es) ≡ None
    go true e rest = let c : count_by p (x ∷ es) ≡ one (p x) + count_by p es = count_cons p x es in let o : one (p x) ≡ 1 = ap one e in absurd (omega (arith, h, c, o))
    go false e rest = let c : count_by p (x ∷ es) ≡ one (p x) + count_by p es = count_cons p x es in let o : one (p x) ≡ 0 = ap one e in rest (omega (arith, h, c, o))

pub first_passes : (p : Test) (es : List (Pair × Endpoint)) (x : Pair × Endpoint) → first_by p es ≡ Some x → p x ≡ true
first_passes p [] x h = absurd (cc)
first_passes p (y ∷ es) x h = go (p y) refl h (first_passes p es x)
  where
    go : (b : Bool) → p y ≡ b → cond b (Some y) (first_by p es) ≡ Some x → (first_by p es ≡ Some x → p x ≡ true) → p x ≡ true
    go true e g rest = let same : y ≡ x = cc in ap p (sym same) ∙ e
    go false e g rest = rest g

-- an entry that does not pass, put anywhere, changes nothing
first_put : (p : Test) (es : List (Pair × Endpoint)) (k : Pair) (e : Endpoint) → find pair_cmp k es ≡ None → p (k, e) ≡ false → first_by p (put pair_cmp k e es) ≡ first_by p es
first_put p [] k e none h = ap (λ (b : Bool). cond b (Some (k, e)) None) h
first_put p (x ∷ es) k e none h = go (pair_cmp k x.0) none (λ g. first_put p es k e g h)
  where
    go : (r : Ordering) → cond (is_eq r) (Some x.1) (find pair_cmp k es) ≡ None → (find pair_cmp k es ≡ None → first_by p (put pair_cmp k e es) ≡ first_by p es) → first_by p (by_order r ((k, e) ∷ x ∷ es) ((x.0, e) ∷ es) (x ∷ put pair_cmp k e es)) ≡ first_by p (x ∷ es)
    go Less g rest = ap (λ (b : Bool). cond b (Some (k, e)) (first_by p (x ∷ es))) h
    go Equal g rest = absurd (cc)
    go Greater g rest = ap (cond (p x) (Some x)) (rest g)

-- one that passes, where none does, is the first
first_put_new : (p : Test) (es : List (Pair × Endpoint)) (k : Pair) (e : Endpoint) → find pair_cmp k es ≡ None → p (k, e) ≡ true → count_by p es ≡ 0 → first_by p (put pair_cmp k e es) ≡ Some (k, e)
first_put_new p [] k e none h c = ap (λ (b : Bool). cond b (Some (k, e)) None) h
first_put_new p (x ∷ es) k e none h c = go (pair_cmp k x.0) none (λ g d. first_put_new p es k e g h d)
  where
    go : (r : Ordering) → cond (is_eq r) (Some x.1) (find pair_cmp k es) ≡ None → (find pair_cmp k es ≡ None → count_by p es ≡ 0 → first_by p (put pair_cmp k e es) ≡ Some (k, e)) → first_by p (by_order r ((k, e) ∷ x ∷ es) ((x.0, e) ∷ es) (x ∷ put pair_cmp k e es)) ≡ Some (k, e)
    go Less g rest = ap (λ (b : Bool). cond b (Some (k, e)) (first_by p (x ∷ es))) h
    go Equal g rest = absurd (cc)
    go Greater g rest = step (p x) refl
      where
        step : (b : Bool) → p x ≡ b → cond b (Some x) (first_by p (put pair_cmp k e es)) ≡ Some (k, e)
        step true f = let d : count_by p (x ∷ es) ≡ one (p x) + count_by p es = count_cons p x es in let o : one (p x) ≡ 1 = ap one f in absurd (omega (arith, c, d, o))
        step false f = let d : count_by p (x ∷ es) ≡ one (p x) + count_by p es = count_cons p x es in let o : one (p x) ≡ 0 = ap one f in rest g (omega (arith, c, d, o))

-- where one passes at most, the map's first is the list's
pub first_is : (p : Test) (es : List (Pair × Endpoint)) → AreEntries es → count_by p es ≤ 1 → first_by p (entries (from_entries {R = pair_cmp} es)) ≡ first_by p es
first_is p [] are h = first_none p (entries (from_entries {R = pair_cmp} [])) (count_is p [] are)
first_is p (x ∷ es) are h =
    ap (λ (xs : List (Pair × Endpoint)). first_by p xs) (entries-insert pairs_total (from_entries es) x.0 x.1) ∙ go (p x) refl (first_is p es are.2)
  where
    none : find pair_cmp x.0 (entries (from_entries {R = pair_cmp} es)) ≡ None
    none = sym (get-entries (from_entries es) x.0) ∙ get-from_entries pairs_total es x.0 ∙ are.0

    go : (b : Bool) → p x ≡ b → (count_by p es ≤ 1 → first_by p (entries (from_entries {R = pair_cmp} es)) ≡ first_by p es) → first_by p (put pair_cmp x.0 x.1 (entries (from_entries {R = pair_cmp} es))) ≡ cond b (Some x) (first_by p es)
    go true f rest =
        let d : count_by p (x ∷ es) ≡ one (p x) + count_by p es = count_cons p x es in
        let o : one (p x) ≡ 1 = ap one f in
        let z : count_by p es ≡ 0 = omega (arith, h, d, o) in
        first_put_new p (entries (from_entries es)) x.0 x.1 none f (count_is p es are.2 ∙ z)
    go false f rest =
        let d : count_by p (x ∷ es) ≡ one (p x) + count_by p es = count_cons p x es in
        let o : one (p x) ≡ 0 = ap one f in
        first_put p (entries (from_entries es)) x.0 x.1 none f ∙ rest (omega (arith, h, d, o))

pub first_at : (p : Test) (es : List (Pair × Endpoint)) (i : ℕ) (x : Pair × Endpoint) → slice_get es i ≡ Some x → p x ≡ true → count_by p es ≤ 1 → first_by p es ≡ Some x
first_at p [] i x is h most = absurd (cc)
first_at p (y ∷ es) zero x is h most =
    let same : y ≡ x = cc in
    let passes : p y ≡ true = ap p same ∙ h in
    ap (λ (b : Bool). cond b (Some y) (first_by p es)) passes ∙ is
first_at p (y ∷ es) (suc i) x is h most = go (p y) refl (first_at p es i x is h)
  where
    go : (b : Bool) → p y ≡ b → (count_by p es ≤ 1 → first_by p es ≡ Some x) → cond b (Some y) (first_by p es) ≡ Some x
    go true e rest =
        let c : count_by p (y ∷ es) ≡ one (p y) + count_by p es = count_cons p y es in
        let d : count_by p (remove es i) + one (p x) ≡ count_by p es = count_remove p es i x is in
        let o : one (p y) ≡ 1 = ap one e in
        let q : one (p x) ≡ 1 = ap one h in
        absurd (omega (arith, c, d, o, q, most))
    go false e rest =
        let c : count_by p (y ∷ es) ≡ one (p y) + count_by p es = count_cons p y es in
        let o : one (p y) ≡ 0 = ap one e in
        rest (omega (arith, c, o, most))

-- what is counted among the entries with their keys
pub count_entries : {A : Type 0} (p : A → Bool) (n : ℕ) (slots : List (Option A)) → count_by (λ e. p e.1) (entries_from n slots) ≡ count_by p (vals slots)
count_entries p n [] = refl
count_entries p n (None ∷ slots) = count_entries p (n + 1) slots
count_entries p n (Some x ∷ slots) =
    count_cons (λ e. p e.1) (n, x) (entries_from (n + 1) slots)
    ∙ ap (λ c. one (p x) + c) (count_entries p (n + 1) slots)
    ∙ sym (count_cons p x (vals slots))
