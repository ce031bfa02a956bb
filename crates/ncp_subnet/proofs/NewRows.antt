-- The ways of a new subnet.
use Rattle.std.proofs.Common.{◌≡◌, ◌≢◌, ℕ, zero, suc, ◌==◌, Bool, true, false, not, ◌&&◌, ◌||◌, List, [], ◌∷◌, ◌++◌, replicate, Option, unwrap_or, inl, inr, refl, sym, ap, ◌∙◌, eq-eqb, eqb-true}
use Rattle.std.specs.List.{list_any, flat_map}
use Rattle.std.specs.FinMap.{get, get-empty}
use Rattle.std.proofs.lemmas.Bool.{ne_eqb}
use Rattle.std.proofs.lemmas.Bool.Decides.{eqb_tells}
use Rattle.std.proofs.lemmas.List.Folds.{list_any-append}
use Rattle.ncp_subnet.specs.declared.transit.Transit.TheVariants.{Free}
use Rattle.ncp_subnet.specs.declared.way.TheConstants.{LINKS}
use Rattle.ncp_subnet.specs.Ways.{OnLink, OneWay, way_leads, free_way, free_ways, free_ways_from}
use Rattle.ncp_subnet.specs.Subnet.{TransitKey, place, place_cmp, InTransit, on, put_in_transit, has_way, is_one_of, are_two_of, transit_at, links_in, ways_in, subnet_in, new_subnet}
use Rattle.ncp_subnet.proofs.Places.{same_or_distinct, get-put_same, get-put_other}
use Rattle.ncp_subnet.proofs.Rows.{has-leads}

pub free_ways_from-other : (from : ℕ) (hosts : List ℕ) (to : ℕ) → to ≢ from → free_ways_from from (hosts ++ to ∷ []) ≡ free_ways_from from hosts ++ free_way from to ∷ []
free_ways_from-other from [] to ne = rw (ne_eqb to from ne) refl
free_ways_from-other from (host ∷ hosts) to ne = elim (eqb_tells host from) [
  | inl e ↦ rw (eq-eqb host from e.1) (free_ways_from-other from hosts to ne)
  | inr n ↦ rw (ne_eqb host from n.1) (ap (λ (ways : List OneWay). free_way from host ∷ ways) (free_ways_from-other from hosts to ne))
]

pub free_ways_from-self : (from : ℕ) (hosts : List ℕ) (to : ℕ) → to ≡ from → free_ways_from from (hosts ++ to ∷ []) ≡ free_ways_from from hosts
free_ways_from-self from [] to e = rw (eq-eqb to from e) refl
free_ways_from-self from (host ∷ hosts) to e = elim (eqb_tells host from) [
  | inl is ↦ rw (eq-eqb host from is.1) (free_ways_from-self from hosts to e)
  | inr n ↦ rw (ne_eqb host from n.1) (ap (λ (ways : List OneWay). free_way from host ∷ ways) (free_ways_from-self from hosts to e))
]

-- Which ways there are.

-- tests of one host
kept_out : (a b c d : Bool) → (a ≡ true → b ≡ d) → (a && (c && not d)) ≡ (a && ((b || c) && not d))
kept_out false b c d h = refl
kept_out true true true true h = refl
kept_out true true false true h = refl
kept_out true false true true h = refl
kept_out true false false true h = refl
kept_out true true c false h = absurd (let k : true ≡ false = h refl in cc)
kept_out true false c false h = refl

taken_in : (a b c d : Bool) → (a ≡ true → b ≡ true → d ≡ false) → ((a && b) || (a && (c && not d))) ≡ (a && ((b || c) && not d))
taken_in false b c d h = refl
taken_in true true c true h = absurd (let k : true ≡ false = h refl refl in cc)
taken_in true true c false h = refl
taken_in true false c d h = refl

spread : (a o c : Bool) → ((a && c) || (o && c)) ≡ ((a || o) && c)
spread true true true = refl
spread true true false = refl
spread true false true = refl
spread true false false = refl
spread false o c = refl

regrouped : (a b c : Bool) → (a && (b && c)) ≡ ((a && b) && c)
regrouped true b c = refl
regrouped false b c = refl

nothing : (a b : Bool) → false ≡ (a && (false && b))
nothing true b = refl
nothing false b = refl

same_tests : (f t x host : ℕ) → host ≡ x → (x == f) ≡ true → (host == t) ≡ (f == t)
same_tests f t x host e h = let k : x ≡ f = eqb-true x f h in ap (λ (n : ℕ). n == t) (e ∙ k)

unlike_tests : (f t x host : ℕ) → host ≢ x → (x == f) ≡ true → (host == t) ≡ true → (f == t) ≡ false
unlike_tests f t x host ne h k = ne_eqb f t (λ e. ne (eqb-true host t k ∙ sym e ∙ sym (eqb-true x f h)))

any-from : (f t x : ℕ) (hosts : List ℕ) → list_any (way_leads f t) (free_ways_from x hosts) ≡ (x == f && (is_one_of t hosts && not (f == t)))
any-from f t x [] = nothing (x == f) (not (f == t))
any-from f t x (host ∷ hosts) = elim (eqb_tells host x) [
  | inl e ↦ rw (eq-eqb host x e.1) (any-from f t x hosts ∙ kept_out (x == f) (host == t) (is_one_of t hosts) (f == t) (same_tests f t x host e.1))
  | inr n ↦ rw (ne_eqb host x n.1) (ap (λ (b : Bool). (x == f && host == t) || b) (any-from f t x hosts) ∙ taken_in (x == f) (host == t) (is_one_of t hosts) (f == t) (unlike_tests f t x host n.1))
]

any-each : (f t : ℕ) (all hosts : List ℕ) → list_any (λ x. list_any (way_leads f t) (free_ways_from x all)) hosts ≡ (is_one_of f hosts && (is_one_of t all && not (f == t)))
any-each f t all [] = refl
any-each f t all (x ∷ hosts) =
    ap (λ (b : Bool). b || list_any (λ y. list_any (way_leads f t) (free_ways_from y all)) hosts) (any-from f t x all)
    ∙ ap (λ (b : Bool). (x == f && (is_one_of t all && not (f == t))) || b) (any-each f t all hosts)
    ∙ spread (x == f) (is_one_of f hosts) (is_one_of t all && not (f == t))

any-flat : (p : OneWay → Bool) (g : ℕ → List OneWay) (xs : List ℕ) → list_any p (flat_map g xs) ≡ list_any (λ x. list_any p (g x)) xs
any-flat p g [] = refl
any-flat p g (x ∷ xs) = list_any-append p (g x) (flat_map g xs) ∙ ap (λ (b : Bool). list_any p (g x) || b) (any-flat p g xs)

-- messages go between any two of the hosts
pub has_way-new : (hosts : List ℕ) (from to : ℕ) → has_way (new_subnet hosts) from to ≡ are_two_of hosts from to
unfolding new_subnet subnet_in
has_way-new hosts from to =
    has-leads (free_ways hosts) from to ∙ any-flat (way_leads from to) (λ x. free_ways_from x hosts) hosts ∙ any-each from to hosts hosts
    ∙ regrouped (is_one_of from hosts) (is_one_of to hosts) (not (from == to))

-- Nothing is in transit.

free-links : (from to link many : ℕ) (m : InTransit) (q : TransitKey) → unwrap_or (get m q) Free ≡ Free → unwrap_or (get (links_in from to link (replicate many Free) m) q) Free ≡ Free
free-links from to link zero m q h = h
free-links from to link (suc many) m q h = elim (same_or_distinct q (place from to link)) [
  | inl e ↦ ap (λ (k : TransitKey). unwrap_or (get (put_in_transit (links_in from to (suc link) (replicate many Free) m) from to link Free) k) Free) e
      ∙ ap (λ (o : Option OnLink). unwrap_or o Free) (get-put_same (links_in from to (suc link) (replicate many Free) m) from to link Free)
  | inr ne ↦ ap (λ (o : Option OnLink). unwrap_or o Free) (get-put_other (links_in from to (suc link) (replicate many Free) m) from to link Free q ne) ∙ free-links from to (suc link) many m q h
]

-- ways on which nothing is in transit
abbrev AreFree : List OneWay → Type 0
AreFree [] = Unit {0}
AreFree (way ∷ ways) = (way.links ≡ replicate LINKS Free) × AreFree ways

AreFree-append : (ways more : List OneWay) → AreFree ways → AreFree more → AreFree (ways ++ more)
AreFree-append [] more a b = b
AreFree-append (way ∷ ways) more a b = (a.0, AreFree-append ways more a.1 b)

AreFree-from : (from : ℕ) (hosts : List ℕ) → AreFree (free_ways_from from hosts)
AreFree-from from [] = tt
AreFree-from from (host ∷ hosts) = elim (eqb_tells host from) [
  | inl e ↦ rw (eq-eqb host from e.1) (AreFree-from from hosts)
  | inr n ↦ rw (ne_eqb host from n.1) (refl, AreFree-from from hosts)
]

AreFree-all : (all hosts : List ℕ) → AreFree (flat_map (λ from. free_ways_from from all) hosts)
AreFree-all all [] = tt
AreFree-all all (host ∷ hosts) = AreFree-append (free_ways_from host all) (flat_map (λ from. free_ways_from from all) hosts) (AreFree-from host all) (AreFree-all all hosts)

free-ways : (ways : List OneWay) (q : TransitKey) → AreFree ways → unwrap_or (get (ways_in ways) q) Free ≡ Free
free-ways [] q h = ap (λ (o : Option OnLink). unwrap_or o Free) (get-empty place_cmp q)
free-ways (way ∷ ways) q h =
    ap (λ (links : List OnLink). unwrap_or (get (links_in way.from way.to 0 links (ways_in ways)) q) Free) h.0
    ∙ free-links way.from way.to 0 LINKS (ways_in ways) q (free-ways ways q h.1)

pub transit-new : (hosts : List ℕ) (from to link : ℕ) → transit_at (new_subnet hosts) from to link ≡ Free
unfolding new_subnet subnet_in on
transit-new hosts from to link = free-ways (free_ways hosts) (place from to link) (AreFree-all hosts hosts)
