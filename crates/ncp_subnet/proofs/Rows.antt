-- Ways in a row, and the subnet that they are.
use Rattle.std.proofs.Common.{◌≡◌, ◌≢◌, ℕ, zero, suc, ◌+◌, ◌<◌, ◌==◌, Bool, true, false, ◌&&◌, ◌||◌, List, [], ◌∷◌, length, get_or, slice_set, map, Option, Some, None, unwrap_or, inl, inr, refl, sym, ap, ◌∙◌, arith, get_or-set_same, length-set, eqb-true, IfSome, IfNone}
use Rattle.std.specs.List.{list_any, position, position_from}
use Rattle.std.specs.Bool.{OnTrue, OnFalse}
use Rattle.std.specs.FinMap.{get, get-empty}
use Rattle.std.proofs.lemmas.Bool.{and_parts}
use Rattle.std.proofs.lemmas.List.Quantifiers.{position-Some}
use Rattle.std.proofs.lemmas.Iterator.Adapters.{position_from-zero}
use Rattle.ncp_subnet.specs.declared.transit.Transit.TheVariants.{Free, Accepted, Delivered, Lost, Dead}
use Rattle.ncp_subnet.specs.Transit.{is_free, is_accepted, if_accepted, delivered, transit_answered}
use Rattle.ncp_subnet.specs.Messages.{arriving, answer_about}
use Rattle.ncp_subnet.specs.Ways.{OnLink, OneWay, way_leads, on_link, with_link, free_way}
use Rattle.ncp_subnet.specs.Subnet.{TransitKey, place, place_cmp, InTransit, Subnet, on, put_in_transit, has_way, transit_at, with_transit, OthersStayInTransit, ways_in, hosts_of, subnet_in}
use Rattle.ncp_subnet.proofs.Places.{same_or_distinct, same_everywhere, get-put_same, get-put_other, links-other, links-at, links-set_other, links-same_following, transit_at-same, transit_at-others}

-- a way that leads is one from and to these hosts
leads-from : (from to : ℕ) (way : OneWay) → way_leads from to way ≡ true → way.from ≡ from
leads-from from to way h = let parts : ((way.from == from) ≡ true) × ((way.to == to) ≡ true) = and_parts _ _ h in eqb-true way.from from parts.0

leads-to : (from to : ℕ) (way : OneWay) → way_leads from to way ≡ true → way.to ≡ to
leads-to from to way h = let parts : ((way.from == from) ≡ true) × ((way.to == to) ≡ true) = and_parts _ _ h in eqb-true way.to to parts.1

leads-not : (from to : ℕ) (way : OneWay) → way_leads from to way ≡ false → from ≡ way.from → to ≡ way.to → ⊥
leads-not from to way h e f = let is : way_leads from to way ≡ true = rw (e, f) (both way.from way.to) in cc
  where
    both : (a b : ℕ) → (a == a && b == b) ≡ true
    both a b = grind arith

-- a link of the first way that leads is that link of the subnet
ways-at : (ways : List OneWay) (from to link at : ℕ) (way : OneWay) → at < length ways → way ≡ get_or ways at way → way_leads from to way ≡ true → ((k : ℕ) → k < at → way_leads from to (get_or ways k way) ≡ false) → link < length way.links → get (ways_in ways) (place from to link) ≡ Some (on_link way link)
ways-at [] from to link at way inside is does first fits = absurd (omega arith)
ways-at (next ∷ ways) from to link zero way inside is does first fits =
    ap (λ (w : OneWay). get (ways_in (w ∷ ways)) (place from to link)) (sym is)
    ∙ ap (λ (f : ℕ). get (ways_in (way ∷ ways)) (place f to link)) (sym (leads-from from to way does))
    ∙ ap (λ (t : ℕ). get (ways_in (way ∷ ways)) (place way.from t link)) (sym (leads-to from to way does))
    ∙ links-at way.from way.to 0 link way.links (ways_in ways) link (omega arith) fits
ways-at (next ∷ ways) from to link (suc at) way inside is does first fits =
    links-other next.from next.to 0 next.links (ways_in ways) (place from to link) (leads-not from to next (first 0 (omega arith)))
    ∙ ways-at ways from to link at way (omega arith) is does (λ k below. first (suc k) (omega arith)) fits

-- to change a link of a way changes nothing elsewhere
ways-elsewhere : (ways : List OneWay) (at link : ℕ) (way : OneWay) (transit : OnLink) (q : TransitKey) → way ≡ get_or ways at way → q ≢ place way.from way.to link → get (ways_in (slice_set ways at (with_link way link transit))) q ≡ get (ways_in ways) q
ways-elsewhere [] at link way transit q is ne = refl
ways-elsewhere (next ∷ ways) zero link way transit q is ne =
    links-set_other way.from way.to 0 link way.links (ways_in ways) link transit q (omega arith) ne
    ∙ ap (λ (w : OneWay). get (ways_in (w ∷ ways)) q) is
ways-elsewhere (next ∷ ways) (suc at) link way transit q is ne =
    links-same_following next.from next.to 0 next.links (ways_in (slice_set ways at (with_link way link transit))) (ways_in ways) q (ways-elsewhere ways at link way transit q is ne)

-- what leads is as before
leads-set : (ways : List OneWay) (from to at link : ℕ) (way : OneWay) (transit : OnLink) (k : ℕ) → way ≡ get_or ways at way → way_leads from to (get_or (slice_set ways at (with_link way link transit)) k (with_link way link transit)) ≡ way_leads from to (get_or ways k way)
leads-set [] from to at link way transit k is = refl
leads-set (next ∷ ways) from to zero link way transit zero is = ap (way_leads from to) is
leads-set (next ∷ ways) from to zero link way transit (suc k) is = same_default ways k
  where
    same_default : (ws : List OneWay) (k : ℕ) → way_leads from to (get_or ws k (with_link way link transit)) ≡ way_leads from to (get_or ws k way)
    same_default [] k = refl
    same_default (w ∷ ws) zero = refl
    same_default (w ∷ ws) (suc k) = same_default ws k
leads-set (next ∷ ways) from to (suc at) link way transit zero is = refl
leads-set (next ∷ ways) from to (suc at) link way transit (suc k) is = leads-set ways from to at link way transit k is

hosts-set : (ways : List OneWay) (at link : ℕ) (way : OneWay) (transit : OnLink) → way ≡ get_or ways at way → map hosts_of (slice_set ways at (with_link way link transit)) ≡ map hosts_of ways
hosts-set [] at link way transit is = refl
hosts-set (next ∷ ways) zero link way transit is = ap (λ (w : OneWay). hosts_of w ∷ map hosts_of ways) is
hosts-set (next ∷ ways) (suc at) link way transit is = ap (λ (hs : List (ℕ × ℕ)). hosts_of next ∷ hs) (hosts-set ways at link way transit is)

get_or-set_here : (ways : List OneWay) (at : ℕ) (way : OneWay) → at < length ways → way ≡ get_or (slice_set ways at way) at way
get_or-set_here ways at way inside = sym (get_or-set_same ways at way way inside)

-- What holds where a way was found, and read.

pub record Found (ways : List OneWay) (from to link at : ℕ) (way : OneWay) : Type 0 where
  pub position : position (way_leads from to) ways ≡ Some at
  pub read : way ≡ get_or ways at way
  pub inside : link < length way.links

found-parts : (ways : List OneWay) (from to link at : ℕ) (way : OneWay) → Found ways from to link at way → (at < length ways) × (way_leads from to way ≡ true) × ((k : ℕ) → k < at → way_leads from to (get_or ways k way) ≡ false)
found-parts ways from to link at way f =
    let parts : (at < length ways) × (way_leads from to (get_or ways at way) ≡ true) × ((k : ℕ) → k < at → way_leads from to (get_or ways k way) ≡ false) = position-Some (way_leads from to) ways at way f.position in
    (parts.0, ap (way_leads from to) f.read ∙ parts.1, parts.2)

pub transit-found : (ways : List OneWay) (all : Subnet) (from to link at : ℕ) (way : OneWay) → subnet_in ways ≡ all → Found ways from to link at way → transit_at all from to link ≡ on_link way link
unfolding on subnet_in
transit-found ways all from to link at way is f =
    let parts : (at < length ways) × (way_leads from to way ≡ true) × ((k : ℕ) → k < at → way_leads from to (get_or ways k way) ≡ false) = found-parts ways from to link at way f in
    ap (λ (s : Subnet). transit_at s from to link) (sym is)
    ∙ ap (λ (o : Option OnLink). unwrap_or o Free) (ways-at ways from to link at way parts.0 f.read parts.1 parts.2 f.inside)

pub changed-found : (ways : List OneWay) (all : Subnet) (from to link at : ℕ) (way : OneWay) (transit : OnLink) → subnet_in ways ≡ all → Found ways from to link at way → subnet_in (slice_set ways at (with_link way link transit)) ≡ with_transit all from to link transit
unfolding subnet_in
changed-found ways all from to link at way transit is f =
    ap (λ (m : InTransit × List (ℕ × ℕ)). let r : Subnet = record { ways = m.1; in_transit = m.0 } in r) (pair map_is (hosts-set ways at link way transit f.read))
    ∙ ap (λ (s : Subnet). with_transit s from to link transit) is
  where
    pair : {m n : InTransit} {a b : List (ℕ × ℕ)} → m ≡ n → a ≡ b → ◌≡◌ {A = InTransit × List (ℕ × ℕ)} (m, a) (n, b)
    pair p q = λ i. (p i, q i)

    parts : (at < length ways) × (way_leads from to way ≡ true) × ((k : ℕ) → k < at → way_leads from to (get_or ways k way) ≡ false)
    parts = found-parts ways from to link at way f

    there : place way.from way.to link ≡ place from to link
    there = ap (λ (h : ℕ). place h way.to link) (leads-from from to way parts.1) ∙ ap (λ (h : ℕ). place from h link) (leads-to from to way parts.1)

    at_place : get (ways_in (slice_set ways at (with_link way link transit))) (place from to link) ≡ Some transit
    at_place =
        ways-at (slice_set ways at (with_link way link transit)) from to link at (with_link way link transit) (simp length-set parts.0) (get_or-set_here ways at (with_link way link transit) parts.0) parts.1
        (λ k below. leads-set ways from to at link way transit k f.read ∙ parts.2 k below) (simp length-set f.inside)
        ∙ ap Some (get_or-set_same way.links link transit Free f.inside)

    map_is : ways_in (slice_set ways at (with_link way link transit)) ≡ put_in_transit (ways_in ways) from to link transit
    map_is = same_everywhere (ways_in (slice_set ways at (with_link way link transit))) (put_in_transit (ways_in ways) from to link transit) (λ q. elim (same_or_distinct q (place from to link)) [
      | inl e ↦ ap (get (ways_in (slice_set ways at (with_link way link transit)))) e ∙ at_place ∙ sym (get-put_same (ways_in ways) from to link transit) ∙ ap (get (put_in_transit (ways_in ways) from to link transit)) (sym e)
      | inr ne ↦ ways-elsewhere ways at link way transit q f.read (λ e. ne (e ∙ there)) ∙ sym (get-put_other (ways_in ways) from to link transit q ne)
    ])

-- what a change makes of a link, and elsewhere

pub transit-changed : (ways : List OneWay) (all : Subnet) (from to link at : ℕ) (way new : OneWay) (change : OnLink → OnLink) → subnet_in ways ≡ all → Found ways from to link at way → new ≡ with_link way link (change (on_link way link)) → transit_at (subnet_in (slice_set ways at new)) from to link ≡ change (transit_at all from to link)
transit-changed ways all from to link at way new change is f made =
    ap (λ (w : OneWay). transit_at (subnet_in (slice_set ways at w)) from to link) made
    ∙ ap (λ (s : Subnet). transit_at s from to link) (changed-found ways all from to link at way (change (on_link way link)) is f)
    ∙ transit_at-same all from to link (change (on_link way link))
    ∙ ap change (sym (transit-found ways all from to link at way is f))

pub others-stay : (ways : List OneWay) (all : Subnet) (from to link at : ℕ) (way new : OneWay) (transit : OnLink) → subnet_in ways ≡ all → Found ways from to link at way → new ≡ with_link way link transit → OthersStayInTransit all (subnet_in (slice_set ways at new)) from to link
others-stay ways all from to link at way new transit is f made sender destination other ne =
    ap (λ (w : OneWay). transit_at (subnet_in (slice_set ways at w)) sender destination other) made
    ∙ ap (λ (s : Subnet). transit_at s sender destination other) (changed-found ways all from to link at way transit is f)
    ∙ transit_at-others all from to link transit sender destination other ne

-- Where no way was found.

none-from : (p : OneWay → Bool) (ways : List OneWay) (from : ℕ) → position_from p from ways ≡ None → list_any p ways ≡ false
none-from p [] from e = refl
none-from p (way ∷ ways) from e = go (p way) refl (none-from p ways (from + 1))
  where
    go : (b : Bool) → p way ≡ b → (position_from p (from + 1) ways ≡ None → list_any p ways ≡ false) → (p way || list_any p ways) ≡ false
    go true h rest = absurd (let k : Some from ≡ None = rw h at e in cc)
    go false h rest = rw h (rest (rw h at e))

none-leads : (ways : List OneWay) (from to : ℕ) → position (way_leads from to) ways ≡ None → list_any (way_leads from to) ways ≡ false
none-leads ways from to e = none-from (way_leads from to) ways 0 (sym (position_from-zero (way_leads from to) ways) ∙ e)

ways-none : (ways : List OneWay) (from to link : ℕ) → list_any (way_leads from to) ways ≡ false → get (ways_in ways) (place from to link) ≡ None
ways-none [] from to link e = get-empty place_cmp (place from to link)
ways-none (way ∷ ways) from to link e = go (way_leads from to way) refl (ways-none ways from to link)
  where
    go : (b : Bool) → way_leads from to way ≡ b → (list_any (way_leads from to) ways ≡ false → get (ways_in ways) (place from to link) ≡ None) → get (ways_in (way ∷ ways)) (place from to link) ≡ None
    go true h rest = absurd (let k : true ≡ false = sym (ap (λ (b : Bool). b || list_any (way_leads from to) ways) h) ∙ e in cc)
    go false h rest = links-other way.from way.to 0 way.links (ways_in ways) (place from to link) (leads-not from to way h)
        ∙ rest (sym (ap (λ (b : Bool). b || list_any (way_leads from to) ways) h) ∙ e)

pub transit-none : (ways : List OneWay) (all : Subnet) (from to link : ℕ) → subnet_in ways ≡ all → position (way_leads from to) ways ≡ None → transit_at all from to link ≡ Free
unfolding on subnet_in
transit-none ways all from to link is none =
    ap (λ (s : Subnet). transit_at s from to link) (sym is) ∙ ap (λ (o : Option OnLink). unwrap_or o Free) (ways-none ways from to link (none-leads ways from to none))

-- what changes nothing that is free changes nothing there
pub transit-kept : (ways : List OneWay) (all : Subnet) (from to link : ℕ) (change : OnLink → OnLink) → subnet_in ways ≡ all → position (way_leads from to) ways ≡ None → change Free ≡ Free → transit_at all from to link ≡ change (transit_at all from to link)
transit-kept ways all from to link change is none keeps =
    let free_there : transit_at all from to link ≡ Free = transit-none ways all from to link is none in
    free_there ∙ sym keeps ∙ ap change (sym free_there)

-- The ways that there are.

pub has-leads : (ways : List OneWay) (from to : ℕ) → list_any (λ (way : ℕ × ℕ). way.0 == from && way.1 == to) (map hosts_of ways) ≡ list_any (way_leads from to) ways
has-leads [] from to = refl
has-leads (way ∷ ways) from to = ap (λ (b : Bool). way_leads from to way || b) (has-leads ways from to)

pub has_way-none : (ways : List OneWay) (all : Subnet) (from to : ℕ) → subnet_in ways ≡ all → position (way_leads from to) ways ≡ None → has_way all from to ≡ false
unfolding subnet_in
has_way-none ways all from to is none = ap (λ (s : Subnet). has_way s from to) (sym is) ∙ has-leads ways from to ∙ none-leads ways from to none

any-at : (ways : List OneWay) (p : OneWay → Bool) (at : ℕ) (way : OneWay) → at < length ways → p (get_or ways at way) ≡ true → list_any p ways ≡ true
any-at [] p at way inside h = absurd (omega arith)
any-at (next ∷ ways) p zero way inside h = rw h refl
any-at (next ∷ ways) p (suc at) way inside h = ap (λ (b : Bool). p next || b) (any-at ways p at way (omega arith) h) ∙ or_true (p next)
  where
    or_true : (b : Bool) → (b || true) ≡ true
    or_true true = refl
    or_true false = refl

pub has_way-found : (ways : List OneWay) (all : Subnet) (from to at : ℕ) → subnet_in ways ≡ all → position (way_leads from to) ways ≡ Some at → has_way all from to ≡ true
unfolding subnet_in
has_way-found ways all from to at is found =
    ap (λ (s : Subnet). has_way s from to) (sym is) ∙ has-leads ways from to
    ∙ any-at ways (way_leads from to) at (free_way from to) ((position-Some (way_leads from to) ways at (free_way from to) found).0) ((position-Some (way_leads from to) ways at (free_way from to) found).1)

-- What the code finds.

pub found-by : (seen ways : List OneWay) (from to link at : ℕ) (way : OneWay) (r : Option ℕ) → seen ≡ ways → r ≡ position (way_leads from to) seen → r ≡ Some at → way ≡ get_or ways at way → link < length way.links → Found ways from to link at way
found-by seen ways from to link at way r same is some read inside = record {
  position = ap (position (way_leads from to)) (sym same) ∙ sym is ∙ some;
  read = read;
  inside = inside;
}

pub none-by : (seen ways : List OneWay) (from to : ℕ) (r : Option ℕ) → seen ≡ ways → r ≡ position (way_leads from to) seen → r ≡ None → position (way_leads from to) ways ≡ None
none-by seen ways from to r same is none = ap (position (way_leads from to)) (sym same) ∙ sym is ∙ none

pub from-found : (ways : List OneWay) (from to link at : ℕ) (way : OneWay) → Found ways from to link at way → way.from ≡ from
from-found ways from to link at way f = leads-from from to way ((found-parts ways from to link at way f).1)

pub to-found : (ways : List OneWay) (from to link at : ℕ) (way : OneWay) → Found ways from to link at way → way.to ≡ to
to-found ways from to link at way f = leads-to from to way ((found-parts ways from to link at way f).1)

-- What the answers of a link say of it.

on_true : (b : Bool) {P : Type 0} → P → OnTrue b P
on_true true p = p
on_true false p = tt

on_false : (b : Bool) (P : Type 0) → b ≡ false → OnTrue b P
on_false true P e = absurd cc
on_false false P e = tt

pub when_accepted : (b : Bool) (becomes transit : OnLink) {P : Type 0} → b ≡ is_accepted transit → (if_accepted becomes transit ≡ becomes → P) → OnTrue b P
when_accepted b becomes Free {P} e f = on_false b P e
when_accepted b becomes (Accepted message) e f = on_true b (f refl)
when_accepted b becomes Delivered {P} e f = on_false b P e
when_accepted b becomes Lost {P} e f = on_false b P e
when_accepted b becomes Dead {P} e f = on_false b P e

some : (r : Option (List Bool)) {P : Type 0} → P → IfSome r (λ _. P)
some None p = tt
some (Some m) p = p

no : (r : Option (List Bool)) (P : Type 0) → r ≡ None → IfSome r (λ _. P)
no None P e = tt
no (Some m) P e = absurd cc

pub when_arriving : (r : Option (List Bool)) (from : ℕ) (transit : OnLink) {P : Type 0} → r ≡ arriving from transit → (delivered transit ≡ Delivered → P) → IfSome r (λ _. P)
when_arriving r from Free {P} e f = no r P e
when_arriving r from (Accepted message) e f = some r (f refl)
when_arriving r from Delivered {P} e f = no r P e
when_arriving r from Lost {P} e f = no r P e
when_arriving r from Dead {P} e f = no r P e

pub when_answered : (r : Option (List Bool)) (to link : ℕ) (transit : OnLink) {P : Type 0} → r ≡ answer_about to link transit → (transit_answered transit ≡ Free → P) → IfSome r (λ _. P)
when_answered r to link Free {P} e f = no r P e
when_answered r to link (Accepted message) {P} e f = no r P e
when_answered r to link Delivered e f = some r (f refl)
when_answered r to link Lost e f = some r (f refl)
when_answered r to link Dead e f = some r (f refl)

pub not_free : (transit : OnLink) → is_free transit ≡ false → transit ≢ Free
not_free transit e is = let k : is_free transit ≡ true = ap is_free is in cc

pub free : (transit : OnLink) → is_free transit ≡ true → transit ≡ Free
free Free e = refl
free (Accepted message) e = absurd cc
free Delivered e = absurd cc
free Lost e = absurd cc
free Dead e = absurd cc

-- Where nothing changes.

slice_set-same : (links : List OnLink) (link : ℕ) → slice_set links link (get_or links link Free) ≡ links
slice_set-same [] link = refl
slice_set-same (transit ∷ links) zero = refl
slice_set-same (transit ∷ links) (suc link) = ap (λ (ts : List OnLink). transit ∷ ts) (slice_set-same links link)

slice_set-read : (ways : List OneWay) (at : ℕ) (way : OneWay) → way ≡ get_or ways at way → slice_set ways at way ≡ ways
slice_set-read [] at way is = refl
slice_set-read (next ∷ ways) zero way is = ap (λ (w : OneWay). w ∷ ways) is
slice_set-read (next ∷ ways) (suc at) way is = ap (λ (ws : List OneWay). next ∷ ws) (slice_set-read ways at way is)

pub unchanged : (ways : List OneWay) (all : Subnet) (link at : ℕ) (way new : OneWay) (transit : OnLink) → subnet_in ways ≡ all → way ≡ get_or ways at way → new ≡ with_link way link transit → transit ≡ on_link way link → subnet_in (slice_set ways at new) ≡ all
unchanged ways all link at way new transit is read made same =
    ap (λ (w : OneWay). subnet_in (slice_set ways at w)) (made ∙ ap (with_link way link) same ∙ ap (λ (links : List OnLink). let r : OneWay = record { from = way.from; to = way.to; links = links } in r) (slice_set-same way.links link))
    ∙ ap subnet_in (slice_set-read ways at way read) ∙ is

pub when_not_accepted : (b : Bool) (becomes transit : OnLink) {P : Type 0} → b ≡ is_accepted transit → (if_accepted becomes transit ≡ transit → P) → OnFalse b P
when_not_accepted true becomes Free e f = tt
when_not_accepted true becomes (Accepted message) e f = tt
when_not_accepted true becomes Delivered e f = tt
when_not_accepted true becomes Lost e f = tt
when_not_accepted true becomes Dead e f = tt
when_not_accepted false becomes Free e f = f refl
when_not_accepted false becomes (Accepted message) e f = absurd cc
when_not_accepted false becomes Delivered e f = f refl
when_not_accepted false becomes Lost e f = f refl
when_not_accepted false becomes Dead e f = f refl

none : (r : Option (List Bool)) {P : Type 0} → P → IfNone r P
none None p = p
none (Some m) p = tt

not_none : (r : Option (List Bool)) (message : List Bool) (P : Type 0) → r ≡ Some message → IfNone r P
not_none None message P e = absurd cc
not_none (Some m) message P e = tt

pub when_not_arriving : (r : Option (List Bool)) (from : ℕ) (transit : OnLink) {P : Type 0} → r ≡ arriving from transit → (delivered transit ≡ transit → P) → IfNone r P
when_not_arriving r from Free e f = none r (f refl)
when_not_arriving r from (Accepted message) {P} e f = not_none r _ P e
when_not_arriving r from Delivered e f = none r (f refl)
when_not_arriving r from Lost e f = none r (f refl)
when_not_arriving r from Dead e f = none r (f refl)

pub when_not_answered : (r : Option (List Bool)) (to link : ℕ) (transit : OnLink) {P : Type 0} → r ≡ answer_about to link transit → (transit_answered transit ≡ transit → P) → IfNone r P
when_not_answered r to link Free e f = none r (f refl)
when_not_answered r to link (Accepted message) e f = none r (f refl)
when_not_answered r to link Delivered {P} e f = not_none r _ P e
when_not_answered r to link Lost {P} e f = not_none r _ P e
when_not_answered r to link Dead {P} e f = not_none r _ P e
