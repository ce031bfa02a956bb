-- Lists of entries, and the map that they make.
use Rattle.std.proofs.Common.{◌≡◌, ℕ, zero, suc, ◌+◌, ◌<◌, Bool, true, false, cond, ◌&&◌, List, [], ◌∷◌, Option, Some, None, IfSome, refl, sym, ap, ◌∙◌, subst, arith, get_or}
use Rattle.std.specs.Prelude.{slice_get, slice_set, length}
use Rattle.std.specs.declared.cmp.Ordering.{Ordering}
use Rattle.std.specs.declared.cmp.Ordering.TheVariants.{Less, Equal, Greater}
use Rattle.std.specs.List.{remove}
use Rattle.std.specs.Ordering.{eq_by_cmp, is_eq}
use Rattle.std.proofs.lemmas.Cmp.{eq_by_cmp_equiv}
use Rattle.std.specs.FinMap as map
use Rattle.std.specs.FinMap.{find, get as map_get, from_entries, insert, get-from_entries, get-insert, get-remove, same_map}
use Rattle.std.proofs.lemmas.Bool.{eqb-true}
use Rattle.std.proofs.lemmas.Bool.Decides.{nat_tests}
use Rattle.ncp_model.specs.declared.pair.Pair.{Pair}
use Rattle.ncp_model.specs.Pairs.{pair_cmp, same}
use Rattle.ncp_model.specs.Endpoint.{Endpoint, is_ended}
use Rattle.ncp_model.proofs.PairOrder.{pairs_total, pairs_exact}
use Rattle.slab.specs.Slab.{Slab, get, entries, entries_from, ContainsKey}
use Rattle.ncp_conn.specs.Entries.{AreEntries, Found, key_of}
use Rattle.ncp_conn.proofs.Slabs.{vals}

abbrev pub is_pair : Pair → Pair → Bool
is_pair a b = eq_by_cmp pair_cmp a b

as_equal : (r : Ordering) → is_eq r ≡ true → r ≡ Equal
as_equal Less h = absurd (cc)
as_equal Equal h = refl
as_equal Greater h = absurd (cc)

pub pair_is : (a b : Pair) → is_pair a b ≡ true → a ≡ b
pair_is a b h = pairs_exact a b (as_equal (pair_cmp a b) h)

pub pair_itself : (a : Pair) → is_pair a a ≡ true
pair_itself a = (eq_by_cmp_equiv pairs_total).refl a

-- an option has not both
never : {A B : Type 0} (x : A) (o : Option A) → o ≡ None → o ≡ Some x → B
never x o h g = absurd (cc)

skipped : {A : Type 0} (a b : Bool) (x y z : A) → a ≡ b → cond a x z ≡ cond a x (cond b y z)
skipped true b x y z h = refl
skipped false true x y z h = absurd (cc)
skipped false false x y z h = refl

swapped : {A : Type 0} (a b : Bool) (x y z : A) → (a ≡ true → b ≡ true → ⊥) → cond a x (cond b y z) ≡ cond b y (cond a x z)
swapped true true x y z h = absurd (h refl refl)
swapped true false x y z h = refl
swapped false b x y z h = refl

cond_none : {A : Type 0} (b : Bool) (o : Option A) → o ≡ None → cond b None o ≡ None
cond_none true o h = refl
cond_none false o h = h

cond_not : {A : Type 0} (b : Bool) (x o : A) → (b ≡ true → ⊥) → cond b x o ≡ o
cond_not true x o h = absurd (h refl)
cond_not false x o h = refl

apart : (x : Pair × Endpoint) (es : List (Pair × Endpoint)) (k : Pair) (e : Endpoint) → find pair_cmp x.0 es ≡ None → find pair_cmp k es ≡ Some e → (q : Pair) → is_pair q x.0 ≡ true → is_pair q k ≡ true → ⊥
apart x es k e none some q a b = never e (find pair_cmp k es) (subst (λ (p : Pair). find pair_cmp p es ≡ None) (sym (pair_is q x.0 a) ∙ pair_is q k b) none) some

-- the entry at a place is found
pub found : (es : List (Pair × Endpoint)) (i : ℕ) (k : Pair) (e : Endpoint) → AreEntries es → slice_get es i ≡ Some (k, e) → find pair_cmp k es ≡ Some e
found [] i k e are is = absurd (cc)
found (x ∷ es) zero k e are is =
    let same : x ≡ (k, e) = cc in
    let key : is_pair k x.0 ≡ true = subst (λ (y : Pair × Endpoint). is_pair k y.0 ≡ true) (sym same) (pair_itself k) in
    rw key (ap Some (ap (λ (y : Pair × Endpoint). y.1) same))
found (x ∷ es) (suc i) k e are is =
    let some = found es i k e are.2 is in
    cond_not (is_pair k x.0) (Some x.1) (find pair_cmp k es) (λ h. apart x es k e are.0 some k h (pair_itself k)) ∙ some

pub find_set : (es : List (Pair × Endpoint)) (i : ℕ) (k : Pair) (e f : Endpoint) → AreEntries es → slice_get es i ≡ Some (k, e) → (q : Pair) → find pair_cmp q (slice_set es i (k, f)) ≡ cond (is_pair q k) (Some f) (find pair_cmp q es)
find_set [] i k e f are is q = absurd (cc)
find_set (x ∷ es) zero k e f are is q =
    let same : x ≡ (k, e) = cc in
    skipped (is_pair q k) (is_pair q x.0) (Some f) (Some x.1) (find pair_cmp q es) (ap (λ (y : Pair × Endpoint). is_pair q y.0) (sym same))
find_set (x ∷ es) (suc i) k e f are is q =
    ap (cond (is_pair q x.0) (Some x.1)) (find_set es i k e f are.2 is q)
    ∙ swapped (is_pair q x.0) (is_pair q k) (Some x.1) (Some f) (find pair_cmp q es) (apart x es k e are.0 (found es i k e are.2 is) q)

pub find_remove : (es : List (Pair × Endpoint)) (i : ℕ) (k : Pair) (e : Endpoint) → AreEntries es → slice_get es i ≡ Some (k, e) → (q : Pair) → find pair_cmp q (remove es i) ≡ cond (is_pair q k) None (find pair_cmp q es)
find_remove [] i k e are is q = absurd (cc)
find_remove (x ∷ es) zero k e are is q = go (is_pair q k) refl
  where
    go : (b : Bool) → is_pair q k ≡ b → find pair_cmp q es ≡ cond b None (cond (is_pair q x.0) (Some x.1) (find pair_cmp q es))
    go true h = subst (λ (p : Pair). find pair_cmp p es ≡ None) (ap (λ (y : Pair × Endpoint). y.0) (let g : x ≡ (k, e) = cc in g) ∙ sym (pair_is q k h)) are.0
    go false h = rw (ap (λ (p : Pair). is_pair q p) (ap (λ (y : Pair × Endpoint). y.0) (let g : x ≡ (k, e) = cc in g)) ∙ h) refl
find_remove (x ∷ es) (suc i) k e are is q =
    ap (cond (is_pair q x.0) (Some x.1)) (find_remove es i k e are.2 is q)
    ∙ swapped (is_pair q x.0) (is_pair q k) (Some x.1) None (find pair_cmp q es) (apart x es k e are.0 (found es i k e are.2 is) q)

pub are_set : (es : List (Pair × Endpoint)) (i : ℕ) (k : Pair) (e f : Endpoint) → AreEntries es → slice_get es i ≡ Some (k, e) → is_ended f ≡ false → AreEntries (slice_set es i (k, f))
are_set [] i k e f are is over = absurd (cc)
are_set (x ∷ es) zero k e f are is over =
    let same : x ≡ (k, e) = cc in
    (subst (λ (y : Pair × Endpoint). find pair_cmp y.0 es ≡ None) same are.0, over, are.2)
are_set (x ∷ es) (suc i) k e f are is over =
    let some = found es i k e are.2 is in
    (find_set es i k e f are.2 is x.0 ∙ cond_not (is_pair x.0 k) (Some f) _ (apart x es k e are.0 some x.0 (pair_itself x.0)) ∙ are.0, are.1, are_set es i k e f are.2 is over)

pub are_remove : (es : List (Pair × Endpoint)) (i : ℕ) (k : Pair) (e : Endpoint) → AreEntries es → slice_get es i ≡ Some (k, e) → AreEntries (remove es i)
are_remove [] i k e are is = absurd (cc)
are_remove (x ∷ es) zero k e are is = are.2
are_remove (x ∷ es) (suc i) k e are is =
    (find_remove es i k e are.2 is x.0 ∙ cond_none (is_pair x.0 k) _ are.0, are.1, are_remove es i k e are.2 is)

-- what the map has at a pair
pub get_is : (es : List (Pair × Endpoint)) (k : Pair) → map_get (from_entries {R = pair_cmp} es) k ≡ find pair_cmp k es
get_is es k = get-from_entries pairs_total es k

pub map_set : (es : List (Pair × Endpoint)) (i : ℕ) (k : Pair) (e f : Endpoint) → AreEntries es → slice_get es i ≡ Some (k, e) → from_entries {R = pair_cmp} (slice_set es i (k, f)) ≡ insert (from_entries es) k f
map_set es i k e f are is = same_map pairs_total pairs_exact _ _ (λ q.
    get_is (slice_set es i (k, f)) q ∙ find_set es i k e f are is q
    ∙ sym (get-insert pairs_total (from_entries es) k f q ∙ ap (cond (is_pair q k) (Some f)) (get_is es q)))

pub map_remove : (es : List (Pair × Endpoint)) (i : ℕ) (k : Pair) (e : Endpoint) → AreEntries es → slice_get es i ≡ Some (k, e) → from_entries {R = pair_cmp} (remove es i) ≡ map.remove (from_entries es) k
map_remove es i k e are is = same_map pairs_total pairs_exact _ _ (λ q.
    get_is (remove es i) q ∙ find_remove es i k e are is q
    ∙ sym (get-remove pairs_total (from_entries es) k q ∙ ap (cond (is_pair q k) None) (get_is es q)))

-- finding

first_true : (a b : Bool) → (a && b) ≡ true → a ≡ true
first_true true b h = refl
first_true false b h = absurd (cc)

second_true : (a b : Bool) → (a && b) ≡ true → b ≡ true
second_true true b h = h
second_true false b h = absurd (cc)

pub same_is : (a b : Pair) → same a b ≡ true → a ≡ b
same_is a b h =
    let l : a.local ≡ b.local = eqb-true a.local b.local (first_true _ _ h) in
    let r : a.remote ≡ b.remote = eqb-true a.remote b.remote (second_true _ _ h) in
    λ i. record { local = l i; remote = r i }

pub same_itself : (a : Pair) → same a a ≡ true
same_itself a = grind (arith, nat_tests)

placed : (k : Pair) (slots : List (Option (Pair × Endpoint))) (n key : ℕ) → key_of (λ e. same e.0 k) (entries_from n slots) ≡ Some key → (j : ℕ) × (key ≡ n + j) × ((e : Endpoint) × (get_or slots j None ≡ Some (k, e)))
placed k [] n key h = absurd (cc)
placed k (None ∷ slots) n key h = let p = placed k slots (n + 1) key h in (suc p.0, let e : key ≡ n + 1 + p.0 = p.1 in omega (arith, e), p.2)
placed k (Some x ∷ slots) n key h = go (same x.0 k) refl h (placed k slots (n + 1) key)
  where
    go : (b : Bool) → same x.0 k ≡ b → cond b (Some n) (key_of (λ e. same e.0 k) (entries_from (n + 1) slots)) ≡ Some key → (key_of (λ e. same e.0 k) (entries_from (n + 1) slots) ≡ Some key → (j : ℕ) × (key ≡ n + 1 + j) × ((e : Endpoint) × (get_or slots j None ≡ Some (k, e)))) → (j : ℕ) × (key ≡ n + j) × ((e : Endpoint) × (get_or (Some x ∷ slots) j None ≡ Some (k, e)))
    go true s g rest = let is : n ≡ key = cc in (zero, omega (arith, is), (x.1, ap (λ (p : Pair). Some (p, x.1)) (same_is x.0 k s)))
    go false s g rest = let p = rest g in (suc p.0, let e : key ≡ n + 1 + p.0 = p.1 in omega (arith, e), p.2)

not_placed : (k : Pair) (slots : List (Option (Pair × Endpoint))) (n : ℕ) → key_of (λ e. same e.0 k) (entries_from n slots) ≡ None → find pair_cmp k (vals slots) ≡ None
not_placed k [] n h = refl
not_placed k (None ∷ slots) n h = not_placed k slots (n + 1) h
not_placed k (Some x ∷ slots) n h = go (same x.0 k) refl h (not_placed k slots (n + 1))
  where
    go : (b : Bool) → same x.0 k ≡ b → cond b (Some n) (key_of (λ e. same e.0 k) (entries_from (n + 1) slots)) ≡ None → (key_of (λ e. same e.0 k) (entries_from (n + 1) slots) ≡ None → find pair_cmp k (vals slots) ≡ None) → find pair_cmp k (x ∷ vals slots) ≡ None
    go true s g rest = absurd (cc)
    go false s g rest = cond_not (is_pair k x.0) (Some x.1) _ (λ a. let t : true ≡ false = sym (same_itself k) ∙ ap (λ (p : Pair). same p k) (pair_is k x.0 a) ∙ s in absurd (cc)) ∙ rest g

pub is_found : (k : Pair) (s : Slab (Pair × Endpoint)) (r : Option ℕ) → key_of (λ e. same e.0 k) (entries s) ≡ r → Found s k r
is_found k s None h = not_placed k s.slots 0 h
is_found k s (Some key) h =
    let p = placed k s.slots 0 key h in
    let e : p.0 ≡ key = let g : key ≡ 0 + p.0 = p.1 in omega (arith, g) in
    (p.2.0, subst (λ (j : ℕ). get s j ≡ Some (k, p.2.0)) e p.2.1)

pub found_has : (k : Pair) (s : Slab (Pair × Endpoint)) (r : Option ℕ) → Found s k r → IfSome r (λ key. ContainsKey s key)
found_has k s None h = tt
found_has k s (Some key) h = rw h.1 refl

-- an entry in a list, put somewhere

pub are_insert : (es : List (Pair × Endpoint)) (i : ℕ) (k : Pair) (e : Endpoint) → slice_get es i ≡ Some (k, e) → AreEntries (remove es i) → find pair_cmp k (remove es i) ≡ None → is_ended e ≡ false → AreEntries es
are_insert [] i k e is are none over = absurd (cc)
are_insert (x ∷ es) zero k e is are none over =
    let same : x ≡ (k, e) = cc in
    (subst (λ (y : Pair × Endpoint). find pair_cmp y.0 es ≡ None) (sym same) none, subst (λ (y : Pair × Endpoint). is_ended y.1 ≡ false) (sym same) over, are)
are_insert (x ∷ es) (suc i) k e is are none over = go (is_pair k x.0) refl none (λ g. are_insert es i k e is are.2 g over)
  where
    go : (b : Bool) → is_pair k x.0 ≡ b → cond b (Some x.1) (find pair_cmp k (remove es i)) ≡ None → (find pair_cmp k (remove es i) ≡ None → AreEntries es) → AreEntries (x ∷ es)
    go true h g rest = absurd (cc)
    go false h g rest =
        let all : AreEntries es = rest g in
        let apart : is_pair x.0 k ≡ true → ⊥ = λ same. let t : true ≡ false = sym same ∙ (eq_by_cmp_equiv pairs_total).symm x.0 k ∙ h in absurd (cc) in
        (sym (cond_not (is_pair x.0 k) None (find pair_cmp x.0 es) apart) ∙ sym (find_remove es i k e all is x.0) ∙ are.0, are.1, all)

pub map_insert : (es : List (Pair × Endpoint)) (i : ℕ) (k : Pair) (e : Endpoint) → AreEntries es → slice_get es i ≡ Some (k, e) → from_entries {R = pair_cmp} es ≡ insert (from_entries (remove es i)) k e
map_insert es i k e are is = same_map pairs_total pairs_exact _ _ (λ q.
    get_is es q ∙ back q (is_pair q k) refl
    ∙ ap (cond (is_pair q k) (Some e)) (sym (find_remove es i k e are is q) ∙ sym (get_is (remove es i) q))
    ∙ sym (get-insert pairs_total (from_entries (remove es i)) k e q))
  where
    back : (q : Pair) (b : Bool) → is_pair q k ≡ b → find pair_cmp q es ≡ cond (is_pair q k) (Some e) (cond (is_pair q k) None (find pair_cmp q es))
    back q true h = ap (λ (p : Pair). find pair_cmp p es) (pair_is q k h) ∙ found es i k e are is ∙ sym (ap (λ (b : Bool). cond b (Some e) (cond b None (find pair_cmp q es))) h)
    back q false h = sym (ap (λ (b : Bool). cond b (Some e) (cond b None (find pair_cmp q es))) h)

-- a place with an entry is in the list
pub within : {A : Type 0} (es : List A) (i : ℕ) (x : A) → slice_get es i ≡ Some x → i < length es
within [] i x h = absurd (cc)
within (y ∷ es) zero x h = omega arith
within (y ∷ es) (suc i) x h = let g = within es i x h in omega arith

pub get_set : {A : Type 0} (es : List A) (i : ℕ) (x y : A) → slice_get es i ≡ Some x → slice_get (slice_set es i y) i ≡ Some y
get_set [] i x y h = absurd (cc)
get_set (z ∷ es) zero x y h = refl
get_set (z ∷ es) (suc i) x y h = get_set es i x y h

pub set_same : {A : Type 0} (es : List A) (i : ℕ) (x : A) → slice_get es i ≡ Some x → slice_set es i x ≡ es
set_same [] i x h = absurd (cc)
set_same (z ∷ es) zero x h = let same : z ≡ x = cc in ap (λ y. y ∷ es) (sym same)
set_same (z ∷ es) (suc i) x h = ap (λ ys. z ∷ ys) (set_same es i x h)

pub remove_set : {A : Type 0} (es : List A) (i : ℕ) (y : A) → remove (slice_set es i y) i ≡ remove es i
remove_set [] i y = refl
remove_set (z ∷ es) zero y = refl
remove_set (z ∷ es) (suc i) y = ap (λ ys. z ∷ ys) (remove_set es i y)

-- an end that is there is not over
pub not_over : (es : List (Pair × Endpoint)) (i : ℕ) (k : Pair) (e : Endpoint) → AreEntries es → slice_get es i ≡ Some (k, e) → is_ended e ≡ false
not_over [] i k e are is = absurd (cc)
not_over (x ∷ es) zero k e are is = let same : x ≡ (k, e) = cc in subst (λ (y : Pair × Endpoint). is_ended y.1 ≡ false) same are.1
not_over (x ∷ es) (suc i) k e are is = not_over es i k e are.2 is
