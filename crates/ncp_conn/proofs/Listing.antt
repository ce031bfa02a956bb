-- The place of an entry is how many stand before it.
use Rattle.std.proofs.Common.{◌≡◌, ℕ, zero, suc, ◌+◌, ◌≤◌, Bool, true, false, cond, ◌&&◌, T, List, [], ◌∷◌, Option, Some, None, IfSome, refl, sym, ap, ◌∙◌, subst, arith, get_or}
use Rattle.std.specs.Prelude.{slice_get, ◌==◌}
use Rattle.std.specs.declared.cmp.Ordering.{Ordering}
use Rattle.std.specs.declared.cmp.Ordering.TheVariants.{Less, Equal, Greater}
use Rattle.std.specs.Ordering.{is_lt, is_eq, ordering_reverse}
use Rattle.std.specs.Cmp.{tied_itself}
use Rattle.std.specs.List.{count_by}
use Rattle.std.specs.FinMap as map
use Rattle.std.specs.FinMap.{find, from_entries, is_sorted, entries_sorted, get-entries}
use Rattle.std.specs.FinMap.Entries.{below_all}
use Rattle.std.proofs.lemmas.Bool.{eqb-true}
use Rattle.std.proofs.lemmas.Bool.Decides.{nat_tests}
use Rattle.slab.specs.Slab.{Slab, get, entries, entries_from, values, ContainsKey}
use Rattle.ncp_model.specs.declared.pair.Pair.{Pair}
use Rattle.ncp_model.specs.Pairs.{pair_cmp}
use Rattle.ncp_model.specs.Endpoint.{Endpoint}
use Rattle.ncp_model.specs.Ends.{Ends}
use Rattle.ncp_model.proofs.PairOrder.{pairs_total}
use Rattle.ncp_conn.specs.declared.entries.Entries.{Entries}
use Rattle.ncp_conn.specs.declared.record.Record.{Record}
use Rattle.ncp_conn.specs.Entries.{IsKept, key_of}
use Rattle.ncp_conn.specs.Records.{record_of, record_if_any, record_in}
use Rattle.ncp_conn.specs.Listing.{with_record, connection_in, is_before, stands_at}
use Rattle.ncp_conn.proofs.Slabs.{vals, one_value}
use Rattle.ncp_conn.proofs.Finding.{is_pair, pair_is, pair_itself, get_is}
use Rattle.ncp_conn.proofs.Counts.{one, count_cons}
use Rattle.ncp_conn.proofs.Tables.{counted, got}

t_first : (a b : Bool) → T (a && b) → T a
t_first true b h = tt
t_first false b h = absurd h

t_second : (a b : Bool) → T (a && b) → T b
t_second true b h = h
t_second false b h = absurd h

-- of two keys one is not before the other and behind it
counterpart : (x y : Pair) → T (is_lt (pair_cmp x y)) → pair_cmp y x ≡ Greater
counterpart x y h = go (pair_cmp x y) refl h
  where
    go : (r : Ordering) → pair_cmp x y ≡ r → T (is_lt r) → pair_cmp y x ≡ Greater
    go Less e l = pairs_total.antisymm y x ∙ ap ordering_reverse e
    go Equal e l = absurd l
    go Greater e l = absurd l

none_before : (x : Pair) (es : List (Pair × Endpoint)) → T (below_all pair_cmp x es) → count_by (is_before x) es ≡ 0
none_before x [] h = refl
none_before x (e ∷ es) h =
    let o : one (is_lt (pair_cmp e.0 x)) ≡ 0 = ap (λ (r : Ordering). one (is_lt r)) (counterpart x e.0 (t_first _ _ h)) in
    let rest : count_by (is_before x) es ≡ 0 = none_before x es (t_second _ _ h) in
    count_cons (is_before x) e es ∙ omega (arith, o, rest)

below_at : (k : Pair) (es : List (Pair × Endpoint)) (i : ℕ) (x : Pair × Endpoint) → T (below_all pair_cmp k es) → slice_get es i ≡ Some x → T (is_lt (pair_cmp k x.0))
below_at k [] i x b h = absurd (cc)
below_at k (e ∷ es) zero x b h = let same : e ≡ x = cc in subst (λ (y : Pair × Endpoint). T (is_lt (pair_cmp k y.0))) same (t_first _ _ b)
below_at k (e ∷ es) (suc i) x b h = below_at k es i x (t_second _ _ b) h

one_true : (b : Bool) → T b → one b ≡ 1
one_true true h = refl
one_true false h = absurd h

-- in a list in order so many stand before an entry as its place says
pub rank : (es : List (Pair × Endpoint)) (i : ℕ) (x : Pair × Endpoint) → T (is_sorted pair_cmp es) → slice_get es i ≡ Some x → count_by (is_before x.0) es ≡ i
rank [] i x s h = absurd (cc)
rank (e ∷ es) zero x s h =
    let same : e ≡ x = cc in
    let o : one (is_lt (pair_cmp e.0 e.0)) ≡ 0 = ap (λ (r : Ordering). one (is_lt r)) (tied_itself pairs_total e.0) in
    let rest : count_by (is_before e.0) es ≡ 0 = none_before e.0 es (t_first _ _ s) in
    subst (λ (y : Pair × Endpoint). count_by (is_before y.0) (e ∷ es) ≡ 0) same (count_cons (is_before e.0) e es ∙ omega (arith, o, rest))
rank (e ∷ es) (suc i) x s h =
    let o : one (is_lt (pair_cmp e.0 x.0)) ≡ 1 = one_true _ (below_at e.0 es i x (t_first _ _ s) h) in
    let rest : count_by (is_before x.0) es ≡ i = rank es i x (t_second _ _ s) h in
    count_cons (is_before x.0) e es ∙ omega (arith, o, rest)

-- what is at a place of it is found, and what is found has a place
pub found_sorted : (es : List (Pair × Endpoint)) (i : ℕ) (x : Pair × Endpoint) → T (is_sorted pair_cmp es) → slice_get es i ≡ Some x → find pair_cmp x.0 es ≡ Some x.1
found_sorted [] i x s h = absurd (cc)
found_sorted (e ∷ es) zero x s h =
    let same : e ≡ x = cc in
    subst (λ (y : Pair × Endpoint). find pair_cmp y.0 (e ∷ es) ≡ Some y.1) same (ap (λ (b : Bool). cond b (Some e.1) (find pair_cmp e.0 es)) (pair_itself e.0))
found_sorted (e ∷ es) (suc i) x s h =
    let apart : is_pair x.0 e.0 ≡ false = ap is_eq (counterpart e.0 x.0 (below_at e.0 es i x (t_first _ _ s) h)) in
    ap (λ (b : Bool). cond b (Some e.1) (find pair_cmp x.0 es)) apart ∙ found_sorted es i x (t_second _ _ s) h

pub find_at : (es : List (Pair × Endpoint)) (k : Pair) (f : Endpoint) → find pair_cmp k es ≡ Some f → (i : ℕ) × (slice_get es i ≡ Some (k, f))
find_at [] k f h = absurd (cc)
find_at (x ∷ es) k f h = go (is_pair k x.0) refl h (find_at es k f)
  where
    go : (b : Bool) → is_pair k x.0 ≡ b → cond b (Some x.1) (find pair_cmp k es) ≡ Some f → (find pair_cmp k es ≡ Some f → (i : ℕ) × (slice_get es i ≡ Some (k, f))) → (i : ℕ) × (slice_get (x ∷ es) i ≡ Some (k, f))
    go true s g rest =
        let l : x.1 ≡ f = cc in
        let p : x.0 ≡ k = sym (pair_is k x.0 s) in
        (zero, λ i. Some (p i, l i))
    go false s g rest = let r = rest g in (suc r.0, r.1)

-- the first key whose entry passes a test
keyed : (test : Pair × Endpoint → Bool) (slots : List (Option (Pair × Endpoint))) (n key : ℕ) → key_of test (entries_from n slots) ≡ Some key → (j : ℕ) × (key ≡ n + j) × ((p : Pair × Endpoint) × (get_or slots j None ≡ Some p) × (test p ≡ true))
keyed test [] n key h = absurd (cc)
keyed test (None ∷ slots) n key h = let p = keyed test slots (n + 1) key h in (suc p.0, let e : key ≡ n + 1 + p.0 = p.1 in omega (arith, e), p.2)
keyed test (Some x ∷ slots) n key h = go (test x) refl h (keyed test slots (n + 1) key)
  where
    go : (b : Bool) → test x ≡ b → cond b (Some n) (key_of test (entries_from (n + 1) slots)) ≡ Some key → (key_of test (entries_from (n + 1) slots) ≡ Some key → (j : ℕ) × (key ≡ n + 1 + j) × ((p : Pair × Endpoint) × (get_or slots j None ≡ Some p) × (test p ≡ true))) → (j : ℕ) × (key ≡ n + j) × ((p : Pair × Endpoint) × (get_or (Some x ∷ slots) j None ≡ Some p) × (test p ≡ true))
    go true s g rest = let is : n ≡ key = cc in (zero, omega (arith, is), (x, refl, s))
    go false s g rest = let p = rest g in (suc p.0, let e : key ≡ n + 1 + p.0 = p.1 in omega (arith, e), p.2)

pub keyed_has : (test : Pair × Endpoint → Bool) (s : Slab (Pair × Endpoint)) (r : Option ℕ) → r ≡ key_of test (entries s) → IfSome r (λ key. ContainsKey s key)
keyed_has test s None h = tt
keyed_has test s (Some key) h =
    let k = keyed test s.slots 0 key (sym h) in
    let here : k.0 ≡ key = let g : key ≡ 0 + k.0 = k.1 in omega (arith, g) in
    rw (subst (λ (j : ℕ). get s j ≡ Some k.2.0) here k.2.1) refl

no_key : (test : Pair × Endpoint → Bool) (slots : List (Option (Pair × Endpoint))) (n i : ℕ) (x : Pair × Endpoint) → key_of test (entries_from n slots) ≡ None → slice_get (vals slots) i ≡ Some x → test x ≡ false
no_key test [] n i x h at = absurd (cc)
no_key test (None ∷ slots) n i x h at = no_key test slots (n + 1) i x h at
no_key test (Some y ∷ slots) n i x h at = go (test y) refl h i at (λ j g here. no_key test slots (n + 1) j x g here)
  where
    go : (b : Bool) → test y ≡ b → cond b (Some n) (key_of test (entries_from (n + 1) slots)) ≡ None → (i : ℕ) → slice_get (y ∷ vals slots) i ≡ Some x
        → ((j : ℕ) → key_of test (entries_from (n + 1) slots) ≡ None → slice_get (vals slots) j ≡ Some x → test x ≡ false) → test x ≡ false
    go true s g i at rest = absurd (cc)
    go false s g zero at rest = let same : y ≡ x = cc in ap test (sym same) ∙ s
    go false s g (suc i) at rest = rest i g at

pub yes : (a b : ℕ) → a ≡ b → (a == b) ≡ true
yes a b e = grind (arith, nat_tests)

module _ {S : Type 0} (e : Entries S) (m : Ends) (v : from_entries (values e.slab) ≡ m) (t : IsKept e) (place : ℕ) where
  -- so many entries of the table stand before one of the map as its place says
  stands : (i : ℕ) (p : Pair × Endpoint) → slice_get (map.entries m) i ≡ Some p → count_by (is_before p.0) (values e.slab) ≡ i
  stands i p at = sym (counted (is_before p.0) (values e.slab) m v t.table.are) ∙ rank (map.entries m) i p (entries_sorted m) at

  pub at_place : (key : ℕ) (p : Pair × Endpoint) → key_of (stands_at place (values e.slab)) (entries e.slab) ≡ Some key → get e.slab key ≡ Some p → slice_get (map.entries m) place ≡ Some p
  at_place key p h at =
      let k = keyed (stands_at place (values e.slab)) e.slab.slots 0 key h in
      let here : k.0 ≡ key = let g : key ≡ 0 + k.0 = k.1 in omega (arith, g) in
      let same : k.2.0 ≡ p = one_value (get e.slab key) k.2.0 p (subst (λ (j : ℕ). get e.slab j ≡ Some k.2.0) here k.2.1) at in
      let many : count_by (is_before p.0) (values e.slab) ≡ place = eqb-true _ place (ap (stands_at place (values e.slab)) (sym same) ∙ k.2.2) in
      let there = find_at (map.entries m) p.0 p.1 (sym (get-entries m p.0) ∙ got e m v t key p.0 p at refl) in
      subst (λ (i : ℕ). slice_get (map.entries m) i ≡ Some p) (sym (stands there.0 p there.1) ∙ many) there.1

  pub nowhere : key_of (stands_at place (values e.slab)) (entries e.slab) ≡ None → slice_get (map.entries m) place ≡ None
  nowhere h = go (slice_get (map.entries m) place) refl
    where
      go : (o : Option (Pair × Endpoint)) → slice_get (map.entries m) place ≡ o → slice_get (map.entries m) place ≡ None
      go None at = at
      go (Some p) at =
          let in_list : find pair_cmp p.0 (values e.slab) ≡ Some p.1 = sym (get_is (values e.slab) p.0) ∙ ap (λ (n : Ends). map.get n p.0) v ∙ get-entries m p.0 ∙ found_sorted (map.entries m) place p (entries_sorted m) at in
          let there = find_at (values e.slab) p.0 p.1 in_list in
          let out : stands_at place (values e.slab) p ≡ false = no_key (stands_at place (values e.slab)) e.slab.slots 0 there.0 p h there.1 in
          let both : true ≡ false = sym (yes _ place (stands place p at)) ∙ out in
          absurd (cc)

-- Over all places each connection comes once, with its record.

has_record : (o : Option (Pair × Endpoint)) (pair : Pair) (r : Record) → with_record o ≡ Some (pair, r) → (p : Pair × Endpoint) × (o ≡ Some p) × (p.0 ≡ pair) × (record_of p.0 p.1 ≡ r)
has_record None pair r h = absurd (cc)
has_record (Some p) pair r h =
    let q : (p.0, record_of p.0 p.1) ≡ (pair, r) = cc in
    (p, refl, ap (λ (x : Pair × Record). x.0) q, ap (λ (x : Pair × Record). x.1) q)

pub place_has_record : (m : Ends) (place : ℕ) (pair : Pair) (r : Record) → connection_in place m ≡ Some (pair, r) → record_in pair m ≡ Some r
place_has_record m place pair r h =
    let p = has_record (slice_get (map.entries m) place) pair r h in
    let there : map.get m p.0.0 ≡ Some p.0.1 = get-entries m p.0.0 ∙ found_sorted (map.entries m) place p.0 (entries_sorted m) p.1 in
    subst (λ (k : Pair). record_in k m ≡ Some r) p.2 (ap (record_if_any p.0.0) there ∙ ap Some p.3)

pub record_has_room : (m : Ends) (pair : Pair) (r : Record) → record_in pair m ≡ Some r → (place : ℕ) × (connection_in place m ≡ Some (pair, r))
record_has_room m pair r h = go (map.get m pair) refl h
  where
    go : (o : Option Endpoint) → map.get m pair ≡ o → record_if_any pair o ≡ Some r → (place : ℕ) × (connection_in place m ≡ Some (pair, r))
    go None e g = absurd (cc)
    go (Some f) e g =
        let there = find_at (map.entries m) pair f (sym (get-entries m pair) ∙ e) in
        let is : record_of pair f ≡ r = cc in
        (there.0, ap with_record there.1 ∙ ap (λ (x : Record). Some (pair, x)) is)

pub place_is_one : (m : Ends) (here there : ℕ) (pair : Pair) (r s : Record) → connection_in here m ≡ Some (pair, r) → connection_in there m ≡ Some (pair, s) → here ≡ there
place_is_one m here there pair r s h g =
    let p = has_record (slice_get (map.entries m) here) pair r h in
    let q = has_record (slice_get (map.entries m) there) pair s g in
    sym (rank (map.entries m) here p.0 (entries_sorted m) p.1)
    ∙ ap (λ (k : Pair). count_by (is_before k) (map.entries m)) (p.2 ∙ sym q.2)
    ∙ rank (map.entries m) there q.0 (entries_sorted m) q.1

none_following : {A : Type 0} (es : List A) (i j : ℕ) → slice_get es i ≡ None → i ≤ j → slice_get es j ≡ None
none_following [] i j h l = refl
none_following (x ∷ es) zero j h l = absurd (cc)
none_following (x ∷ es) (suc i) zero h l = absurd (omega arith)
none_following (x ∷ es) (suc i) (suc j) h l = none_following es i j h (omega arith)

no_record : (o : Option (Pair × Endpoint)) → with_record o ≡ None → o ≡ None
no_record None h = refl
no_record (Some p) h = absurd (cc)

pub places_end : (m : Ends) (place more : ℕ) → connection_in place m ≡ None → place ≤ more → connection_in more m ≡ None
places_end m place more h l = ap with_record (none_following (map.entries m) place more (no_record (slice_get (map.entries m) place) h) l)
