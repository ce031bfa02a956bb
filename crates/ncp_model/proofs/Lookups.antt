-- A look-up among all ends finds what is there, and nothing else.
use Rattle.std.proofs.Common.{◌≡◌, ℕ, Bool, true, false, cond, nat_lt, if◌then◌else◌, List, [], ◌∷◌, Option, None, Some, refl, sym, ap, ◌∙◌, subst, arith}
use Rattle.std.specs.List.{count_by}
use Rattle.std.specs.Ordering.{eq_by_cmp}
use Rattle.std.specs.FinMap.{entries, get, get-entries}
use Rattle.std.specs.FinMap.Entries.{find}
use Rattle.std.proofs.lemmas.List.Sums.{sum_by-cons}
use Rattle.std.proofs.lemmas.Map.Views.{tells_apart}
use Rattle.ncp_model.specs.declared.pair.Pair.{Pair}
use Rattle.ncp_model.specs.Pairs.{pair_cmp}
use Rattle.ncp_model.specs.Endpoint.{Endpoint}
use Rattle.ncp_model.specs.Ends.{Ends, any, first_by, pair_of, end_of}
use Rattle.ncp_model.specs.Demux.{passes}
use Rattle.ncp_model.proofs.PairOrder.{pairs_exact}
use Rattle.ncp_model.proofs.LinksDemux.{led}

-- where an end passes the test, a first one is found
first-some : (test : Pair × Endpoint → Bool) (es : List (Pair × Endpoint)) (p : Pair) (e : Endpoint) → find pair_cmp p es ≡ Some e → test (p, e) ≡ true → (q : Pair × Endpoint) × (first_by test es ≡ Some q)
first-some test [] p e f t = absurd (cc f)
first-some test (x ∷ es) p e f t = go (test x) refl (eq_by_cmp pair_cmp p x.0) refl (first-some test es p e)
  where
    here : eq_by_cmp pair_cmp p x.0 ≡ true → test x ≡ true
    here k =
        let same : p ≡ x.0 = tells_apart pairs_exact p x.0 k in
        let value : Some x.1 ≡ Some e = sym (ap (λ b. cond b (Some x.1) (find pair_cmp p es)) k) ∙ f in
        let one : x.1 ≡ e = cc value in
        subst (λ (y : Pair). test (y, x.1) ≡ true) same (subst (λ (y : Endpoint). test (p, y) ≡ true) (sym one) t)

    go : (b : Bool) → test x ≡ b → (c : Bool) → eq_by_cmp pair_cmp p x.0 ≡ c → (find pair_cmp p es ≡ Some e → test (p, e) ≡ true → (q : Pair × Endpoint) × (first_by test es ≡ Some q)) → (q : Pair × Endpoint) × ((if test x then Some x else first_by test es) ≡ Some q)
    go true b c k r = (x, ap (λ d. if d then Some x else first_by test es) b)
    go false b true k r = absurd (cc (b, here k))
    go false b false k r =
        let q = r (sym (ap (λ d. cond d (Some x.1) (find pair_cmp p es)) k) ∙ f) t in
        (q.0, ap (λ d. if d then Some x else first_by test es) b ∙ q.1)

-- none is counted where none is found, and none found where none is counted
none-found : (test : Pair × Endpoint → Bool) (es : List (Pair × Endpoint)) → count_by test es ≡ 0 → first_by test es ≡ None
none-found test [] c = refl
none-found test (x ∷ es) c = go (test x) refl (none-found test es)
  where
    go : (b : Bool) → test x ≡ b → (count_by test es ≡ 0 → first_by test es ≡ None) → (if test x then Some x else first_by test es) ≡ None
    go true b r = let s = sum_by-cons (λ y. cond (test y) 1 0) x es in absurd (grind (arith, s, b, c))
    go false b r = let s = sum_by-cons (λ y. cond (test y) 1 0) x es in let z : count_by test es ≡ 0 = grind (arith, s, b, c) in ap (λ d. if d then Some x else first_by test es) b ∙ r z

none-counted : (test : Pair × Endpoint → Bool) (es : List (Pair × Endpoint)) → first_by test es ≡ None → count_by test es ≡ 0
none-counted test [] f = refl
none-counted test (x ∷ es) f = go (test x) refl (none-counted test es)
  where
    go : (b : Bool) → test x ≡ b → (first_by test es ≡ None → count_by test es ≡ 0) → count_by test (x ∷ es) ≡ 0
    go true b r = absurd (cc (sym (ap (λ d. if d then Some x else first_by test es) b) ∙ f))
    go false b r =
        let z = r (sym (ap (λ d. if d then Some x else first_by test es) b) ∙ f) in
        let s = sum_by-cons (λ y. cond (test y) 1 0) x es in grind (arith, s, b, z)

-- what no end passes
pub nowhere : (test : Pair × Endpoint → Bool) (m : Ends) → ((p : Pair) → passes test p (get m p) ≡ false) → first_by test (entries m) ≡ None
nowhere test m n = go (first_by test (entries m)) refl
  where
    go : (o : Option (Pair × Endpoint)) → first_by test (entries m) ≡ o → first_by test (entries m) ≡ None
    go None f = f
    go (Some q) f = let l = led test m q.0 (ap pair_of f) in absurd (cc (l.1, n q.0))

pub none-any : (test : Pair × Endpoint → Bool) (m : Ends) → ((p : Pair) → passes test p (get m p) ≡ false) → any test m ≡ false
none-any test m n = let z = none-counted test (entries m) (nowhere test m n) in ap (nat_lt 0) z

pub any-none : (test : Pair × Endpoint → Bool) (m : Ends) → any test m ≡ false → (p : Pair) → passes test p (get m p) ≡ false
any-none test m a p = go (get m p) refl
  where
    zero_of : (n : ℕ) → nat_lt 0 n ≡ false → n ≡ 0
    zero_of n h = grind arith

    go : (o : Option Endpoint) → get m p ≡ o → passes test p o ≡ false
    go None e = refl
    go (Some e) g = by_test (test (p, e)) refl
      where
        by_test : (b : Bool) → test (p, e) ≡ b → test (p, e) ≡ false
        by_test false t = t
        by_test true t =
            let q = first-some test (entries m) p e (sym (get-entries m p) ∙ g) t in
            let n = none-found test (entries m) (zero_of (count_by test (entries m)) a) in
            absurd (cc (q.1, n))

-- the one end that passes is found
pub leads-there : (test : Pair × Endpoint → Bool) (m : Ends) (p : Pair) → passes test p (get m p) ≡ true → ((q : Pair) → passes test q (get m q) ≡ true → q ≡ p) → pair_of (first_by test (entries m)) ≡ Some p
leads-there test m p t only = go (get m p) refl t
  where
    go : (o : Option Endpoint) → get m p ≡ o → passes test p o ≡ true → pair_of (first_by test (entries m)) ≡ Some p
    go None g t = absurd (cc t)
    go (Some e) g t =
        let q = first-some test (entries m) p e (sym (get-entries m p) ∙ g) t in
        let l = led test m q.0.0 (ap pair_of q.1) in
        ap pair_of q.1 ∙ ap (λ (y : Pair). Some y) (only q.0.0 l.1)

-- The same of an end that is there, by its pair and what it is.
module _ (test : Pair × Endpoint → Bool) (m : Ends) where
  pub looked-up : (q : Pair) (e : Endpoint) → get m q ≡ Some e → test (q, e) ≡ true → ((p : Pair) (x : Endpoint) → get m p ≡ Some x → test (p, x) ≡ true → p ≡ q) → first_by test (entries m) ≡ Some (q, e)
  looked-up q e g t only = found (first_by test (entries m)) refl (leads-there test m q (ap (passes test q) g ∙ t) (λ p h. alone p (get m p) refl h))
    where
      alone : (p : Pair) (o : Option Endpoint) → get m p ≡ o → passes test p o ≡ true → p ≡ q
      alone p None f h = absurd (cc h)
      alone p (Some x) f h = only p x f h

      found : (o : Option (Pair × Endpoint)) → first_by test (entries m) ≡ o → pair_of o ≡ Some q → o ≡ Some (q, e)
      found None f l = absurd (cc l)
      found (Some x) f l =
          let same : x.0 ≡ q = cc l in
          let value : Some e ≡ Some x.1 = sym g ∙ (subst (λ y. get m y ≡ Some x.1) same ((led test m x.0 (ap pair_of f)).0 ∙ ap end_of f)) in
          let one : e ≡ x.1 = cc value in
          subst (λ (y : Pair). Some x ≡ Some (y, e)) same (subst (λ (y : Endpoint). Some x ≡ Some (x.0, y)) (sym one) refl)

  pub looked-up-none : ((p : Pair) (x : Endpoint) → get m p ≡ Some x → test (p, x) ≡ true → ⊥) → any test m ≡ false
  looked-up-none none = none-any test m (λ p. alone p (get m p) refl)
    where
      alone : (p : Pair) (o : Option Endpoint) → get m p ≡ o → passes test p o ≡ false
      alone p None f = refl
      alone p (Some x) f = go (test (p, x)) refl
        where
          go : (b : Bool) → test (p, x) ≡ b → test (p, x) ≡ false
          go true t = absurd (none p x f t)
          go false t = t
