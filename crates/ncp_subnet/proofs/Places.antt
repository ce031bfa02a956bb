-- Ways in a row, and the map that they are.
use Rattle.std.proofs.Common.{◌≡◌, ◌≢◌, ℕ, zero, suc, ◌+◌, ◌<◌, Bool, true, false, List, [], ◌∷◌, length, get_or, slice_set, Option, Some, unwrap_or, inl, inr, ◌⊎◌, refl, sym, ap, ◌∙◌, arith}
use Rattle.std.specs.Ordering.{nat_cmp, eq_by_cmp}
use Rattle.std.specs.Cmp.{IsTotalOrder, nat_cmp_total, eq_by_cmp_equiv}
use Rattle.std.specs.FinMap.{get, get-insert, same_map}
use Rattle.std.proofs.lemmas.Cmp.{on_total, then_total}
use Rattle.std.proofs.lemmas.Map.Lookups.{CmpEqualImpliesEq, exact_pairs, exact_unsigned}
use Rattle.std.proofs.lemmas.Map.Views.{tells_apart}
use Rattle.ncp_subnet.specs.declared.transit.Transit.TheVariants.{Free}
use Rattle.ncp_subnet.specs.Ways.{OnLink}
use Rattle.ncp_subnet.specs.Subnet.{TransitKey, place, place_cmp, InTransit, Subnet, on, put_in_transit, transit_at, with_transit, OthersStayInTransit, links_in}

-- The order of places.

pub places_total : IsTotalOrder place_cmp
places_total = then_total (on_total (λ p. p.from) nat_cmp_total) (then_total (on_total (λ p. p.to) nat_cmp_total) (on_total (λ p. p.link) nat_cmp_total))

pub places_exact : CmpEqualImpliesEq place_cmp
places_exact a b h =
    ap (λ (p : ℕ × (ℕ × ℕ)). place p.0 p.1.0 p.1.1) (exact_pairs nat_cmp _ exact_unsigned (exact_pairs nat_cmp nat_cmp exact_unsigned exact_unsigned) (a.from, (a.to, a.link)) (b.from, (b.to, b.link)) h)

same : (a b : TransitKey) → a ≡ b → eq_by_cmp place_cmp a b ≡ true
same a b e = ap (eq_by_cmp place_cmp a) (sym e) ∙ (eq_by_cmp_equiv places_total).refl a

test : (b : Bool) → (b ≡ true) ⊎ (b ≡ false)
test true = inl refl
test false = inr refl

apart : (a b : TransitKey) → a ≢ b → eq_by_cmp place_cmp a b ≡ false
apart a b ne = elim (test (eq_by_cmp place_cmp a b)) [
  | inl is ↦ absurd (ne (tells_apart places_exact a b is))
  | inr is ↦ is
]

pub same_or_distinct : (a b : TransitKey) → (a ≡ b) ⊎ (a ≢ b)
same_or_distinct a b = elim (test (eq_by_cmp place_cmp a b)) [
  | inl is ↦ inl (tells_apart places_exact a b is)
  | inr is ↦ inr (λ e. let is_too : eq_by_cmp place_cmp a b ≡ true = same a b e in cc)
]

-- The map.

pub get-put_same : (m : InTransit) (from to link : ℕ) (transit : OnLink) → get (put_in_transit m from to link transit) (place from to link) ≡ Some transit
unfolding put_in_transit
get-put_same m from to link transit = get-insert places_total m (place from to link) transit (place from to link) ∙ rw (same (place from to link) (place from to link) refl) refl

pub get-put_other : (m : InTransit) (from to link : ℕ) (transit : OnLink) (q : TransitKey) → q ≢ place from to link → get (put_in_transit m from to link transit) q ≡ get m q
unfolding put_in_transit
get-put_other m from to link transit q ne = get-insert places_total m (place from to link) transit q ∙ rw (apart q (place from to link) ne) refl

-- two maps that give the same at each place are one
pub same_everywhere : (m n : InTransit) → ((q : TransitKey) → get m q ≡ get n q) → m ≡ n
same_everywhere m n is = same_map places_total places_exact m n is

-- The links of one way, the first of them with this number.

-- elsewhere they say nothing
pub links-other : (from to link : ℕ) (links : List OnLink) (m : InTransit) (q : TransitKey) → (q.from ≡ from → q.to ≡ to → ⊥) → get (links_in from to link links m) q ≡ get m q
links-other from to link [] m q ne = refl
links-other from to link (transit ∷ links) m q ne =
    get-put_other (links_in from to (suc link) links m) from to link transit q (λ e. ne (ap (λ (p : TransitKey). p.from) e) (ap (λ (p : TransitKey). p.to) e))
    ∙ links-other from to (suc link) links m q ne

-- what stands at a place is of that link
pub links-at : (from to link at : ℕ) (links : List OnLink) (m : InTransit) (key : ℕ) → key ≡ link + at → at < length links → get (links_in from to link links m) (place from to key) ≡ Some (get_or links at Free)
links-at from to link at [] m key e inside = absurd (omega arith)
links-at from to link zero (transit ∷ links) m key e inside =
    let here : key ≡ link = omega arith in
    ap (λ (k : ℕ). get (links_in from to link (transit ∷ links) m) (place from to k)) here ∙ get-put_same (links_in from to (suc link) links m) from to link transit
links-at from to link (suc at) (transit ∷ links) m key e inside =
    get-put_other (links_in from to (suc link) links m) from to link transit (place from to key) (λ is. let k : key ≡ link = ap (λ (p : TransitKey). p.link) is in absurd (omega arith))
    ∙ links-at from to (suc link) at links m key (omega arith) (omega arith)

-- what is behind a link
put-same_following : (from to link : ℕ) (first : OnLink) (m n : InTransit) (q : TransitKey) → get m q ≡ get n q → get (put_in_transit m from to link first) q ≡ get (put_in_transit n from to link first) q
put-same_following from to link first m n q is = elim (same_or_distinct q (place from to link)) [
  | inl e ↦ ap (get (put_in_transit m from to link first)) e ∙ get-put_same m from to link first ∙ sym (get-put_same n from to link first) ∙ ap (get (put_in_transit n from to link first)) (sym e)
  | inr ne ↦ get-put_other m from to link first q ne ∙ is ∙ sym (get-put_other n from to link first q ne)
]

-- what is behind links
pub links-same_following : (from to link : ℕ) (links : List OnLink) (m n : InTransit) (q : TransitKey) → get m q ≡ get n q → get (links_in from to link links m) q ≡ get (links_in from to link links n) q
links-same_following from to link [] m n q is = is
links-same_following from to link (first ∷ links) m n q is =
    put-same_following from to link first (links_in from to (suc link) links m) (links_in from to (suc link) links n) q (links-same_following from to (suc link) links m n q is)

-- a place that stands apart from a changed link is as it was
pub links-set_other : (from to link at : ℕ) (links : List OnLink) (m : InTransit) (key : ℕ) (transit : OnLink) (q : TransitKey) → key ≡ link + at → q ≢ place from to key → get (links_in from to link (slice_set links at transit) m) q ≡ get (links_in from to link links m) q
links-set_other from to link at [] m key transit q e ne = refl
links-set_other from to link zero (first ∷ links) m key transit q e ne =
    let here : key ≡ link = omega arith in
    let away : q ≢ place from to link = λ is. ne (is ∙ ap (place from to) (sym here)) in
    get-put_other (links_in from to (suc link) links m) from to link transit q away ∙ sym (get-put_other (links_in from to (suc link) links m) from to link first q away)
links-set_other from to link (suc at) (first ∷ links) m key transit q e ne =
    put-same_following from to link first (links_in from to (suc link) (slice_set links at transit) m) (links_in from to (suc link) links m) q (links-set_other from to (suc link) at links m key transit q (omega arith) ne)

pub transit_at-same : (subnet : Subnet) (from to link : ℕ) (transit : OnLink) → transit_at (with_transit subnet from to link transit) from to link ≡ transit
unfolding on
transit_at-same subnet from to link transit = ap (λ (o : Option OnLink). unwrap_or o Free) (get-put_same subnet.in_transit from to link transit)

pub transit_at-others : (subnet : Subnet) (from to link : ℕ) (transit : OnLink) → OthersStayInTransit subnet (with_transit subnet from to link transit) from to link
unfolding on
transit_at-others subnet from to link transit sender destination other ne =
    ap (λ (o : Option OnLink). unwrap_or o Free) (get-put_other subnet.in_transit from to link transit (place sender destination other)
    (λ e. ne (ap (λ (p : TransitKey). p.from) e, ap (λ (p : TransitKey). p.to) e, ap (λ (p : TransitKey). p.link) e)))
