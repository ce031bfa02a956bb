-- What an act at one entry does to a table. In the first of them r is the entry at place i of es, f
-- what it became, and new the entries afterwards; then r is under a key.
use Rattle.std.proofs.Common.{◌≡◌, ℕ, ◌+◌, ◌<◌, ◌≤◌, ◌⊎◌, inl, inr, Bool, true, false, cond, not, ◌&&◌, ◌==◌, ◌%◌, nat_lt, List, [], Option, Some, None, is_some, refl, sym, ap, ◌∙◌, subst, arith}
use Rattle.std.specs.Prelude.{slice_get, slice_set, length}
use Rattle.std.specs.List.{count_by, remove}
use Rattle.std.specs.FinMap as map
use Rattle.std.specs.FinMap.{find, from_entries, insert}
use Rattle.std.proofs.lemmas.Bool.{eqb-true}
use Rattle.std.proofs.lemmas.Bool.Decides.{nat_tests}
use Rattle.slab.specs.Slab.{Slab, get, values, slab_len, with_value, ContainsKey, Updates, HasRoomFor}
use Rattle.slab.proofs.DrainLemmas.{length-values}
use Rattle.ncp_model.specs.declared.pair.Pair.{Pair}
use Rattle.ncp_model.specs.Pairs.{pair_cmp, sends, receives, is_proper}
use Rattle.ncp_model.specs.Endpoint.{Endpoint, is_ended}
use Rattle.ncp_model.specs.Effect.{Effect, Stays, Becomes, answer}
use Rattle.ncp_model.specs.Ends.{Ends, count, any, has_asked, is_by_peer, hears_link, uses_link, first_by, sender_on, receiver_on, pair_of, cut_at, map_after, map_after_at, no_ends}
use Rattle.ncp_model.specs.Commands.{hear_cls, hear_cls_at}
use Rattle.ncp_conn.specs.Asking.{Enters as NewAmong}
use Rattle.ncp_conn.specs.Indexes.{key_at, entry_passes, IsIndex, LeadsTo}
use Rattle.ncp_conn.specs.Links.{is_in}
use Rattle.ncp_conn.specs.Sending.{may_send_text, sends_at, AreSending, Notes}
use Rattle.ncp_conn.specs.Cutting.{may_cut}
use Rattle.ncp_conn.specs.Entries.{AreEntries, IsTable, IsKept, Found, Puts, Led, Settled}
use Rattle.ncp_conn.specs.Changes.{after, marks}
use Rattle.ncp_conn.specs.declared.entries.Entries.{Entries}
use Rattle.ncp_conn.proofs.Slabs.{vals, below, vals_at, vals_set, below_set, vals_without, get_set as slot_set, get_set_other as slot_set_other}
use Rattle.ncp_conn.proofs.Finding.{found, are_set, are_remove, are_insert, map_set, map_remove, map_insert, get_is, set_same, remove_set, not_over}
use Rattle.ncp_conn.proofs.Counts.{one, count_set, count_remove, count_is, count_both, first_is, first_none}
use Rattle.ncp_conn.proofs.Cutting.{cut_tells}
use Rattle.ncp_conn.proofs.Sending.{over_sends_not, sending_changed}
use Rattle.ncp_conn.proofs.Indexes.{led, led_first, led_nowhere, index_kept, index_left, index_led, no_entries}

-- the entries after the one at a place became f: it is out where its end is over
abbrev pub changed : List (Pair × Endpoint) → ℕ → Pair × Endpoint → List (Pair × Endpoint)
changed es i f = cond (is_ended f.1) (remove (slice_set es i f) i) (slice_set es i f)

-- The map.

changed_same : (es : List (Pair × Endpoint)) (i : ℕ) (r : Pair × Endpoint) → AreEntries es → slice_get es i ≡ Some r → changed es i r ≡ es
changed_same es i r are is = rw (not_over es i r.0 r.1 are is) (set_same es i r is)

map_changed : {A : Type 0} (es : List (Pair × Endpoint)) (i : ℕ) (r : Pair × Endpoint) (act : Effect A) → AreEntries es → slice_get es i ≡ Some r → from_entries {R = pair_cmp} (changed es i (after r act)) ≡ map_after (from_entries es) r.0 act
map_changed es i r (Stays a) are is = ap (from_entries {R = pair_cmp}) (changed_same es i r are is)
map_changed es i r (Becomes f a) are is = go (is_ended f)
  where
    go : (b : Bool) → from_entries {R = pair_cmp} (cond b (remove (slice_set es i (r.0, f)) i) (slice_set es i (r.0, f))) ≡ cond b (map.remove (from_entries es) r.0) (insert (from_entries es) r.0 f)
    go true = ap (from_entries {R = pair_cmp}) (remove_set es i (r.0, f)) ∙ map_remove es i r.0 r.1 are is
    go false = map_set es i r.0 r.1 f are is

pub map_acted : {A : Type 0} (es : List (Pair × Endpoint)) (i : ℕ) (r f : Pair × Endpoint) (new : List (Pair × Endpoint)) (m : Ends) (act : Effect A) → AreEntries es → from_entries es ≡ m → slice_get es i ≡ Some r → new ≡ changed es i f → f ≡ after r act → from_entries {R = pair_cmp} new ≡ map_after m r.0 act
map_acted es i r f new m act are v is n e =
    ap (from_entries {R = pair_cmp}) (n ∙ ap (changed es i) e) ∙ map_changed es i r act are is ∙ ap (λ (x : Ends). map_after x r.0 act) v

pub map_kept : (es : List (Pair × Endpoint)) (i : ℕ) (r f : Pair × Endpoint) (new : List (Pair × Endpoint)) (m : Ends) → AreEntries es → from_entries es ≡ m → slice_get es i ≡ Some r → new ≡ changed es i f → f ≡ r → from_entries {R = pair_cmp} new ≡ m
map_kept es i r f new m are v is n e =
    ap (from_entries {R = pair_cmp}) (n ∙ ap (changed es i) e ∙ changed_same es i r are is) ∙ v

-- The table stays one.

-- a test that f passes was passed by r, or by none
abbrev pub Passes : (Pair × Endpoint → Bool) → List (Pair × Endpoint) → Pair × Endpoint → Pair × Endpoint → Type 0
Passes p es r f = p f ≡ true → (p r ≡ true) ⊎ (count_by p es ≡ 0)

single_set : (p : Pair × Endpoint → Bool) (es : List (Pair × Endpoint)) (i : ℕ) (r f : Pair × Endpoint) → slice_get es i ≡ Some r → count_by p es ≤ 1 → Passes p es r f → count_by p (slice_set es i f) ≤ 1
single_set p es i r f is one_only passes = go (p f) (p r) refl refl
  where
    c : count_by p (slice_set es i f) + one (p r) ≡ count_by p es + one (p f)
    c = count_set p es i r f is

    go : (b d : Bool) → p f ≡ b → p r ≡ d → count_by p (slice_set es i f) ≤ 1
    go false d e g = let o : one (p f) ≡ 0 = ap one e in omega (arith, c, o, one_only)
    go true true e g = let o : one (p f) ≡ 1 = ap one e in let q : one (p r) ≡ 1 = ap one g in omega (arith, c, o, q, one_only)
    go true false e g = which (passes e)
      where
        which : (p r ≡ true) ⊎ (count_by p es ≡ 0) → count_by p (slice_set es i f) ≤ 1
        which (inl h) = let t : true ≡ false = sym h ∙ g in absurd (cc)
        which (inr z) = let o : one (p f) ≡ 1 = ap one e in omega (arith, c, o, z)

single_remove : (p : Pair × Endpoint → Bool) (es : List (Pair × Endpoint)) (i : ℕ) (r : Pair × Endpoint) → slice_get es i ≡ Some r → count_by p es ≤ 1 → count_by p (remove es i) ≤ 1
single_remove p es i r is h = let c = count_remove p es i r is in omega (arith, c, h)

pub table_changed : (es : List (Pair × Endpoint)) (i : ℕ) (r f : Pair × Endpoint) (capacity : ℕ) → IsTable es capacity → slice_get es i ≡ Some r → f.0 ≡ r.0 → count_by has_asked es + one f.1.asked ≤ 64 + one r.1.asked → count_by is_by_peer es + one (not f.1.asked) ≤ 64 + one (not r.1.asked) → ((on : ℕ) → Passes (hears_link on) es r f) → ((on : ℕ) → Passes (uses_link on) es r f) → IsTable (changed es i f) capacity
table_changed es i r f capacity t is same own by_peer hears uses = go (is_ended f.1) refl
  where
    go : (b : Bool) → is_ended f.1 ≡ b → IsTable (cond b (remove (slice_set es i f) i) (slice_set es i f)) capacity
    go true over =
        let a = count_remove has_asked es i r is in
        let b = count_remove is_by_peer es i r is in
        rw (remove_set es i f) (record {
          are = are_remove es i r.0 r.1 t.are is;
          own = omega (arith, a, t.own);
          by_peer = omega (arith, b, t.by_peer);
          room = t.room;
          hears = λ on. single_remove (hears_link on) es i r is (t.hears on);
          uses = λ on. single_remove (uses_link on) es i r is (t.uses on);
        })
    go false over =
        let a : count_by has_asked (slice_set es i f) + one r.1.asked ≡ count_by has_asked es + one f.1.asked = count_set has_asked es i r f is in
        let b : count_by is_by_peer (slice_set es i f) + one (not r.1.asked) ≡ count_by is_by_peer es + one (not f.1.asked) = count_set is_by_peer es i r f is in
        let c : count_by has_asked (slice_set es i f) ≤ 64 = omega (arith, a, own) in
        let d : count_by is_by_peer (slice_set es i f) ≤ 64 = omega (arith, b, by_peer) in
        let e : AreEntries (slice_set es i f) = subst (λ (k : Pair). AreEntries (slice_set es i (k, f.1))) (sym same) (are_set es i r.0 r.1 f.1 t.are is over) in
        record {
          are = e;
          own = c;
          by_peer = d;
          room = t.room;
          hears = λ on. single_set (hears_link on) es i r f is (t.hears on) (hears on);
          uses = λ on. single_set (uses_link on) es i r f is (t.uses on) (uses on);
        }

same_marks : (r f : Pair × Endpoint) → f.0 ≡ r.0 → marks f ≡ marks r → (p : Pair → Bool × (Bool × ℕ) → Bool) → p f.0 (marks f) ≡ p r.0 (marks r)
same_marks r f same h p = λ i. p (same i) (h i)

-- what has the same marks has the same links
hears_marked : (r f : Pair × Endpoint) → f.0 ≡ r.0 → marks f ≡ marks r → (on : ℕ) → hears_link on f ≡ hears_link on r
hears_marked r f same h on = same_marks r f same h (λ k x. hears_link on (k, record r.1 { heard = x.1.0; link = x.1.1 }))

uses_marked : (r f : Pair × Endpoint) → f.0 ≡ r.0 → marks f ≡ marks r → (on : ℕ) → uses_link on f ≡ uses_link on r
uses_marked r f same h on = same_marks r f same h (λ k x. uses_link on (k, record r.1 { asked = x.0; link = x.1.1 }))

after_pair : {A : Type 0} (r : Pair × Endpoint) (act : Effect A) → (after r act).0 ≡ r.0
after_pair r (Stays a) = refl
after_pair r (Becomes e a) = refl

-- after an act that leaves the marks
pub table_acted : {A : Type 0} (es : List (Pair × Endpoint)) (i : ℕ) (r f : Pair × Endpoint) (new : List (Pair × Endpoint)) (capacity : ℕ) (act : Effect A) → IsTable es capacity → slice_get es i ≡ Some r → new ≡ changed es i f → f ≡ after r act → marks f ≡ marks r → IsTable new capacity
table_acted es i r f new capacity act t is n e h =
    let same : f.0 ≡ r.0 = ap (λ (x : Pair × Endpoint). x.0) e ∙ after_pair r act in
    let asked : f.1.asked ≡ r.1.asked = ap (λ (x : Bool × (Bool × ℕ)). x.0) h in
    let o : one f.1.asked ≡ one r.1.asked = ap one asked in
    let u : one (not f.1.asked) ≡ one (not r.1.asked) = ap (λ b. one (not b)) asked in
    let own : count_by has_asked es + one f.1.asked ≤ 64 + one r.1.asked = omega (arith, o, t.own) in
    let by_peer : count_by is_by_peer es + one (not f.1.asked) ≤ 64 + one (not r.1.asked) = omega (arith, u, t.by_peer) in
    rw n
    (table_changed es i r f capacity t is same own by_peer
    (λ on p. inl (sym (hears_marked r f same h on) ∙ p))
    (λ on p. inl (sym (uses_marked r f same h on) ∙ p)))

-- which end a link leads to

first_of : (a b : Bool) → (a && b) ≡ true → a ≡ true
first_of true b h = refl
first_of false b h = absurd (cc)

pub hears_sends : (on : ℕ) (r : Pair × Endpoint) → hears_link on r ≡ true → sends r.0 ≡ true
hears_sends on r h = first_of (sends r.0) r.1.heard (first_of (sends r.0 && r.1.heard) (r.1.link == on) h)

pub uses_receives : (on : ℕ) (r : Pair × Endpoint) → uses_link on r ≡ true → receives r.0 ≡ true
uses_receives on r h = first_of (receives r.0) r.1.asked (first_of (receives r.0 && r.1.asked) (r.1.link == on) h)

pub not_receives : (k : Pair) → sends k ≡ true → receives k ≡ false
not_receives k h =
    let odd : (k.local % 2 == 1) ≡ true = first_of (k.local % 2 == 1) (k.remote % 2 == 0) h in
    let is : k.local % 2 ≡ 1 = eqb-true (k.local % 2) 1 odd in
    ap (λ (n : ℕ). n == 0 && k.remote % 2 == 1) is

pub not_sends : (k : Pair) → receives k ≡ true → sends k ≡ false
not_sends k h =
    let even : (k.local % 2 == 0) ≡ true = first_of (k.local % 2 == 0) (k.remote % 2 == 1) h in
    let is : k.local % 2 ≡ 0 = eqb-true (k.local % 2) 0 even in
    ap (λ (n : ℕ). n == 1 && k.remote % 2 == 0) is

pub uses_not_sends : (on : ℕ) (r : Pair × Endpoint) → uses_link on r ≡ true → sends r.0 ≡ false
uses_not_sends on r h = not_sends r.0 (uses_receives on r h)

passed : {A : Type 0} (b : Bool) (x y : A) → b ≡ true → cond (not b) x y ≡ y
passed true x y h = refl
passed false x y h = absurd (cc)

pub cls_proper : (k : Pair) (before : Option Endpoint) → is_proper k ≡ true → hear_cls k before ≡ hear_cls_at k before
cls_proper k before h = passed (is_proper k) _ (hear_cls_at k before) h

-- What is counted in the map.
pub counted : (p : Pair × Endpoint → Bool) (es : List (Pair × Endpoint)) (m : Ends) → from_entries es ≡ m → AreEntries es → count p m ≡ count_by p es
counted p es m v are = ap (count p) (sym v) ∙ count_is p es are

-- A call at a pair: from what the entry's act gave to the clauses of the table.

pub pair_answer : {A : Type 0} (act : Pair → Option Endpoint → Effect A) (r : Pair × Endpoint) (k : Pair) (m : Ends) (a : A) → r.0 ≡ k → map.get m k ≡ Some r.1 → a ≡ answer (act r.0 (Some r.1)) → a ≡ answer (act k (map.get m k))
pair_answer act r k m a same there h = h ∙ ap (λ (p : Pair). answer (act p (Some r.1))) same ∙ ap (λ (o : Option Endpoint). answer (act k o)) (sym there)

pub pair_table : {A : Type 0} (act : Pair → Option Endpoint → Effect A) (r : Pair × Endpoint) (k : Pair) (m new : Ends) → r.0 ≡ k → map.get m k ≡ Some r.1 → new ≡ map_after m r.0 (act r.0 (Some r.1)) → new ≡ map_after m k (act k (map.get m k))
pair_table act r k m new same there h = h ∙ ap (λ (p : Pair). map_after m p (act p (Some r.1))) same ∙ ap (λ (o : Option Endpoint). map_after m k (act k o)) (sym there)

pub none_answer : {A : Type 0} (act : Pair → Option Endpoint → Effect A) (k : Pair) (m : Ends) (a : A) → map.get m k ≡ None → a ≡ answer (act k None) → a ≡ answer (act k (map.get m k))
none_answer act k m a none h = h ∙ ap (λ (o : Option Endpoint). answer (act k o)) (sym none)

pub none_table : {A : Type 0} (act : Pair → Option Endpoint → Effect A) (k : Pair) (m new : Ends) → map.get m k ≡ None → new ≡ map_after m k (act k None) → new ≡ map_after m k (act k (map.get m k))
none_table act k m new none h = h ∙ ap (λ (o : Option Endpoint). map_after m k (act k o)) (sym none)

-- And a call on a link, where o is what the link leads to.

pub link_answer : {A : Type 0} (act : Option (Pair × Endpoint) → Effect A) (o p : Option (Pair × Endpoint)) (a : A) → o ≡ p → a ≡ answer (act p) → a ≡ answer (act o)
link_answer act o p a same h = h ∙ ap (λ (x : Option (Pair × Endpoint)). answer (act x)) (sym same)

pub link_table : {A : Type 0} (act : Option (Pair × Endpoint) → Effect A) (o p : Option (Pair × Endpoint)) (m new : Ends) → o ≡ p → new ≡ map_after_at m (pair_of p) (act p) → new ≡ map_after_at m (pair_of o) (act o)
link_table act o p m new same h = h ∙ ap (λ (x : Option (Pair × Endpoint)). map_after_at m (pair_of x) (act x)) (sym same)

-- Look-ups.

module _ {S : Type 0} (e : Entries S) (m : Ends) (v : from_entries (values e.slab) ≡ m) (t : IsKept e) where
  -- what the map has at the pair of an entry
  pub got : (key : ℕ) (k : Pair) (r : Pair × Endpoint) → get e.slab key ≡ Some r → r.0 ≡ k → map.get m k ≡ Some r.1
  got key k r at same =
      ap (λ (n : Ends). map.get n k) (sym v) ∙ get_is (values e.slab) k ∙ ap (λ (p : Pair). find pair_cmp p (values e.slab)) (sym same)
      ∙ found (values e.slab) _ r.0 r.1 t.table.are (vals_at e.slab.slots key r at)

  pub got_none : (k : Pair) → Found e.slab k None → map.get m k ≡ None
  got_none k f = ap (λ (n : Ends). map.get n k) (sym v) ∙ get_is (values e.slab) k ∙ f

  pub sum_is : (p : Pair × Endpoint → Bool) → count p m ≡ count_by p (values e.slab)
  sum_is p = counted p (values e.slab) m v t.table.are

  -- where a link leads
  first_in : (p : Pair × Endpoint → Bool) (o : Option (Pair × Endpoint)) → count_by p (values e.slab) ≤ 1 → first_by p (values e.slab) ≡ o → first_by p (map.entries m) ≡ o
  first_in p o h is = ap (λ (n : Ends). first_by p (map.entries n)) (sym v) ∙ first_is p (values e.slab) t.table.are h ∙ is

  pub sender_is : (on key : ℕ) (r : Pair × Endpoint) → key_at e.senders on ≡ Some key → get e.slab key ≡ Some r → sender_on on m ≡ Some r
  sender_is on key r leads at = first_in (hears_link on) (Some r) (t.table.hears on) (led_first hears_link e.senders e.slab t.senders on key r leads at (t.table.hears on))

  pub receiver_is : (on key : ℕ) (r : Pair × Endpoint) → key_at e.receivers on ≡ Some key → get e.slab key ≡ Some r → receiver_on on m ≡ Some r
  receiver_is on key r leads at = first_in (uses_link on) (Some r) (t.table.uses on) (led_first uses_link e.receivers e.slab t.receivers on key r leads at (t.table.uses on))

  pub no_sender : (on : ℕ) → key_at e.senders on ≡ None → sender_on on m ≡ None
  no_sender on none = first_in (hears_link on) None (t.table.hears on) (first_none (hears_link on) (values e.slab) (led_nowhere hears_link e.senders e.slab t.senders on none))

  pub no_receiver : (on : ℕ) → key_at e.receivers on ≡ None → receiver_on on m ≡ None
  no_receiver on none = first_in (uses_link on) None (t.table.uses on) (first_none (uses_link on) (values e.slab) (led_nowhere uses_link e.receivers e.slab t.receivers on none))

  -- on the links of the set a text may be cut, and on no others
  pub sending_is : (on : ℕ) → is_in e.sending on ≡ may_cut m on
  sending_is on = go (key_at e.senders on) refl
    where
      cuts : Option (Pair × Endpoint) → Bool
      cuts o = is_some (answer (cut_at o))

      go : (o : Option ℕ) → key_at e.senders on ≡ o → is_in e.sending on ≡ may_cut m on
      go None k = t.sending on ∙ ap (λ (x : Option ℕ). sends_at x e.slab) k ∙ ap cuts (sym (no_sender on k))
      go (Some key) k =
          let p = led hears_link e.senders e.slab t.senders on key k in
          t.sending on ∙ ap (λ (x : Option ℕ). sends_at x e.slab) k ∙ ap (entry_passes may_send_text) p.1 ∙ sym (cut_tells p.0) ∙ ap cuts (sym (sender_is on key p.0 k p.1))

  -- whether a link is free
  any_in : (test : ℕ → Pair × Endpoint → Bool) (keys : List (Option ℕ)) → IsIndex test keys e.slab → (on : ℕ) (o : Option ℕ) → key_at keys on ≡ o → any (test on) m ≡ is_some o
  any_in test keys index on None h = ap (nat_lt 0) (sum_is (test on) ∙ led_nowhere test keys e.slab index on h)
  any_in test keys index on (Some key) h =
      let p = led test keys e.slab index on key h in
      let c : count_by (test on) (remove (values e.slab) (below e.slab.slots key)) + one (test on p.0) ≡ count_by (test on) (values e.slab) = count_remove (test on) (values e.slab) (below e.slab.slots key) p.0 (vals_at e.slab.slots key p.0 p.1) in
      let o : one (test on p.0) ≡ 1 = ap one p.2 in
      let n : count (test on) m ≡ count_by (test on) (values e.slab) = sum_is (test on) in
      let l : 0 < count (test on) m = omega (arith, c, o, n) in
      grind (arith, nat_tests)

  pub is_heard_on : (on : ℕ) → any (hears_link on) m ≡ is_some (key_at e.senders on)
  is_heard_on on = any_in hears_link e.senders t.senders on (key_at e.senders on) refl

  pub is_used : (on : ℕ) → any (uses_link on) m ≡ is_some (key_at e.receivers on)
  is_used on = any_in uses_link e.receivers t.receivers on (key_at e.receivers on) refl

-- an entry that was found has the pair
pub its_pair : (s : Slab (Pair × Endpoint)) (key : ℕ) (k : Pair) (r : Pair × Endpoint) → Found s k (Some key) → get s key ≡ Some r → r.0 ≡ k
its_pair s key k r f at = let same : Some r ≡ Some (k, f.0) = sym at ∙ f.1 in let g : r ≡ (k, f.0) = cc in ap (λ (y : Pair × Endpoint). y.0) g

-- An act at an entry, which is taken out where its end is over then.

abbrev pub acted : {S : Type 0} → Entries S → ℕ → Pair × Endpoint → Entries S
acted e key f = record e { slab = with_value e.slab key f }

-- what settles: an entry whose end is over is taken out, any other stays
module _ {S : Type 0} (old new : Entries S) (key : ℕ) (p : Pair × Endpoint) (notes : Notes p old.sending new.sending) where
  pub settled_out : (sending : ℕ) → is_ended p.1 ≡ true → Puts (record old { sending = sending }) new key None p None → Settled old new key p
  settled_out sending over out = record {
    sending = notes;
    stays = λ h. let both : true ≡ false = sym over ∙ h in absurd (cc);
    leaves = λ _. record { updates = out.updates; capacity = out.capacity; senders = out.senders; receivers = out.receivers };
  }

  pub settled_there : is_ended p.1 ≡ false → new ≡ record old { sending = new.sending } → Settled old new key p
  settled_there there same = record {
    sending = notes;
    stays = λ _. same;
    leaves = λ h. let both : true ≡ false = sym h ∙ there in absurd (cc);
  }

module _ {S : Type 0} (e new : Entries S) (key : ℕ) (r f : Pair × Endpoint) (at : get e.slab key ≡ Some r) (s : (p : Pair × Endpoint) → get (with_value e.slab key f) key ≡ Some p → Settled (acted e key f) new key p) where
  settled : Settled (acted e key f) new key f
  settled = s f (slot_set e.slab.slots key r f at)

  written : Updates e.slab (with_value e.slab key f) key (Some f)
  written = record {
    changed = slot_set e.slab.slots key r f at;
    others = λ other d. slot_set_other e.slab.slots key other (Some f) d;
  }

  list_settled : (b : Bool) → is_ended f.1 ≡ b → values new.slab ≡ cond b (remove (slice_set (values e.slab) (below e.slab.slots key) f) (below e.slab.slots key)) (slice_set (values e.slab) (below e.slab.slots key) f)
  list_settled false h = ap (λ (x : Entries S). values x.slab) (settled.stays h) ∙ vals_set e.slab.slots key r f at
  list_settled true h =
      let u = (settled.leaves h).updates in
      vals_without (slice_set e.slab.slots key (Some f)) new.slab.slots key f (slot_set e.slab.slots key r f at) u.changed u.others
      ∙ ap (remove (vals (slice_set e.slab.slots key (Some f)))) (below_set e.slab.slots key r f at)
      ∙ ap (λ (xs : List (Pair × Endpoint)). remove xs (below e.slab.slots key)) (vals_set e.slab.slots key r f at)

  pub list_is : values new.slab ≡ changed (values e.slab) (below e.slab.slots key) f
  list_is = list_settled (is_ended f.1) refl

  room_settled : (b : Bool) → is_ended f.1 ≡ b → new.slab.capacity ≡ e.slab.capacity
  room_settled false h = ap (λ (x : Entries S). x.slab.capacity) (settled.stays h)
  room_settled true h = (settled.leaves h).capacity

  index_settled : (test : ℕ → Pair × Endpoint → Bool) (pick : Entries S → List (Option ℕ)) → IsIndex test (pick e) e.slab → pick (record (acted e key f) { sending = new.sending }) ≡ pick e → ((on : ℕ) → test on f ≡ test on r) → (is_ended f.1 ≡ true → LeadsTo test f None (pick e) (pick new)) → (b : Bool) → is_ended f.1 ≡ b → IsIndex test (pick new) new.slab
  index_settled test pick index kept same left false h =
      subst (λ (x : Entries S). IsIndex test (pick x) x.slab) (sym (settled.stays h))
      (subst (λ (keys : List (Option ℕ)). IsIndex test keys (with_value e.slab key f)) (sym kept)
      (index_kept test (pick e) e.slab index (with_value e.slab key f) key (Some f) written (λ on. same on ∙ sym (ap (entry_passes (test on)) at))))
  index_settled test pick index kept same left true h =
      index_left test (pick e) (with_value e.slab key f)
      (index_kept test (pick e) e.slab index (with_value e.slab key f) key (Some f) written (λ on. same on ∙ sym (ap (entry_passes (test on)) at)))
      new.slab key f (pick new) (slot_set e.slab.slots key r f at) (settled.leaves h).updates (left h)

  -- whether a text may go out is known of each link again
  sending_settled : IsIndex hears_link e.senders e.slab → AreSending e.sending e.senders e.slab → ((on : ℕ) → hears_link on f ≡ hears_link on r) → (b : Bool) → is_ended f.1 ≡ b → AreSending new.sending new.senders new.slab
  sending_settled index are same false h =
      subst (λ (x : Entries S). AreSending new.sending x.senders x.slab) (sym (settled.stays h))
      (sending_changed e.senders e.senders e.slab (with_value e.slab key f) key (Some f) index written e.sending new.sending f are settled.sending
      (λ on n. ap (entry_passes (hears_link on)) at ∙ sym (same on) ∙ n)
      (λ on n. refl)
      (λ on heard. ap (λ (o : Option ℕ). sends_at o (with_value e.slab key f)) ((index on key).1 (ap (entry_passes (hears_link on)) at ∙ sym (same on) ∙ heard)) ∙ ap (entry_passes may_send_text) written.changed))
  sending_settled index are same true h =
      let left = settled.leaves h in
      let gone : Updates e.slab new.slab key None = record { changed = left.updates.changed; others = λ other d. left.updates.others other d ∙ written.others other d } in
      let leads : (b : Bool) (on : ℕ) → hears_link on f ≡ b → key_at new.senders on ≡ cond b None (key_at e.senders on) = λ b on heard. left.senders on ∙ ap (λ (x : Bool). cond x None (key_at e.senders on)) heard in
      sending_changed e.senders new.senders e.slab new.slab key None index gone e.sending new.sending f are settled.sending
      (λ on n. ap (entry_passes (hears_link on)) at ∙ sym (same on) ∙ n)
      (λ on n. leads false on n)
      (λ on heard. ap (λ (o : Option ℕ). sends_at o new.slab) (leads true on heard) ∙ sym (over_sends_not f h))

  pub kept_acted : {A : Type 0} (act : Effect A) → IsKept e → f ≡ after r act → marks f ≡ marks r → IsKept new
  kept_acted act t is h =
      let same : f.0 ≡ r.0 = ap (λ (x : Pair × Endpoint). x.0) is ∙ after_pair r act in
      record {
        table = subst (λ (n : ℕ). IsTable (values new.slab) n) (sym (room_settled (is_ended f.1) refl)) (table_acted (values e.slab) (below e.slab.slots key) r f (values new.slab) e.slab.capacity act t.table (vals_at e.slab.slots key r at) list_is is h);
        senders = index_settled hears_link (λ (x : Entries S). x.senders) t.senders refl (hears_marked r f same h) (λ o. (settled.leaves o).senders) (is_ended f.1) refl;
        receivers = index_settled uses_link (λ (x : Entries S). x.receivers) t.receivers refl (uses_marked r f same h) (λ o. (settled.leaves o).receivers) (is_ended f.1) refl;
        sending = sending_settled t.senders t.sending (hears_marked r f same h) (is_ended f.1) refl;
      }

  pub ends_acted : {A : Type 0} (act : Effect A) (m : Ends) → from_entries (values e.slab) ≡ m → IsKept e → f ≡ after r act → from_entries {R = pair_cmp} (values new.slab) ≡ map_after m r.0 act
  ends_acted act m v t is = map_acted (values e.slab) (below e.slab.slots key) r f (values new.slab) m act t.table.are v (vals_at e.slab.slots key r at) list_is is

  pub ends_kept : (m : Ends) → from_entries (values e.slab) ≡ m → IsKept e → f ≡ r → from_entries {R = pair_cmp} (values new.slab) ≡ m
  ends_kept m v t is = map_kept (values e.slab) (below e.slab.slots key) r f (values new.slab) m t.table.are v (vals_at e.slab.slots key r at) list_is is

-- A request at an entry, whose links then lead to it.

unheard : (a b : Bool) → (a ≡ true → b ≡ true) → b ≡ false → a ≡ false
unheard false b h n = refl
unheard true b h n = let both : true ≡ false = sym (h refl) ∙ n in absurd (cc)

pub key_set : {S : Type 0} (e : Entries S) (key : ℕ) (r f : Pair × Endpoint) → get e.slab key ≡ Some r → get (with_value e.slab key f) key ≡ Some f
key_set e key r f at = slot_set e.slab.slots key r f at

-- what was under a key is still there when it has changed
pub still_there : {S : Type 0} (e : Entries S) (key : ℕ) (r f : Pair × Endpoint) → get e.slab key ≡ Some r → ContainsKey (with_value e.slab key f) key
still_there e key r f at = rw (key_set e key r f at) refl

module _ {S : Type 0} (e new : Entries S) (key : ℕ) (r f : Pair × Endpoint) (at : get e.slab key ≡ Some r) (l : (p : Pair × Endpoint) → get (with_value e.slab key f) key ≡ Some p → Led (acted e key f) new key p) (lives : is_ended f.1 ≡ is_ended r.1) (t : IsKept e) where
  led_now : Led (acted e key f) new key f
  led_now = l f (slot_set e.slab.slots key r f at)

  over : is_ended f.1 ≡ false
  over = lives ∙ not_over (values e.slab) (below e.slab.slots key) r.0 r.1 t.table.are (vals_at e.slab.slots key r at)

  list_led : values new.slab ≡ changed (values e.slab) (below e.slab.slots key) f
  list_led =
      ap (λ (x : Slab (Pair × Endpoint)). values x) led_now.slab ∙ vals_set e.slab.slots key r f at
      ∙ sym (ap (λ (b : Bool). cond b (remove (slice_set (values e.slab) (below e.slab.slots key) f) (below e.slab.slots key)) (slice_set (values e.slab) (below e.slab.slots key) f)) over)

  changes : Updates e.slab new.slab key (Some f)
  changes = record {
    changed = ap (λ (x : Slab (Pair × Endpoint)). get x key) led_now.slab ∙ slot_set e.slab.slots key r f at;
    others = λ other d. ap (λ (x : Slab (Pair × Endpoint)). get x other) led_now.slab ∙ slot_set_other e.slab.slots key other (Some f) d;
  }

  index_now : (test : ℕ → Pair × Endpoint → Bool) (keys later : List (Option ℕ)) → IsIndex test keys e.slab → LeadsTo test f (Some key) keys later → ((on : ℕ) → test on r ≡ true → test on f ≡ true) → ((on : ℕ) → Passes (test on) (values e.slab) r f) → IsIndex test later new.slab
  index_now test keys later index leads old passing =
      index_led test keys e.slab index new.slab key f later changes leads
      (λ on h. old on (sym (ap (entry_passes (test on)) at) ∙ h))
      (λ on h. which on (passing on h))
    where
      which : (on : ℕ) → (test on r ≡ true) ⊎ (count_by (test on) (values e.slab) ≡ 0) → (entry_passes (test on) (get e.slab key) ≡ true) ⊎ (count_by (test on) (values e.slab) ≡ 0)
      which on (inl h) = inl (ap (entry_passes (test on)) at ∙ h)
      which on (inr z) = inr z

  sending_led : ((on : ℕ) → hears_link on r ≡ true → hears_link on f ≡ true) → AreSending new.sending new.senders new.slab
  sending_led heard =
      let leads : (b : Bool) (on : ℕ) → hears_link on f ≡ b → key_at new.senders on ≡ cond b (Some key) (key_at e.senders on) = λ b on h. led_now.senders on ∙ ap (λ (x : Bool). cond x (Some key) (key_at e.senders on)) h in
      sending_changed e.senders new.senders e.slab new.slab key (Some f) t.senders changes e.sending new.sending f t.sending led_now.sending
      (λ on n. ap (entry_passes (hears_link on)) at ∙ unheard (hears_link on r) (hears_link on f) (heard on) n)
      (λ on n. leads false on n)
      (λ on h. ap (λ (o : Option ℕ). sends_at o new.slab) (leads true on h) ∙ ap (entry_passes may_send_text) changes.changed)

  pub kept_asked : f.0 ≡ r.0 → count_by has_asked (values e.slab) + one f.1.asked ≤ 64 + one r.1.asked → count_by is_by_peer (values e.slab) + one (not f.1.asked) ≤ 64 + one (not r.1.asked) → ((on : ℕ) → Passes (hears_link on) (values e.slab) r f) → ((on : ℕ) → Passes (uses_link on) (values e.slab) r f) → ((on : ℕ) → hears_link on r ≡ true → hears_link on f ≡ true) → ((on : ℕ) → uses_link on r ≡ true → uses_link on f ≡ true) → IsKept new
  kept_asked same own by_peer hears uses heard used =
      record {
        table = subst (λ (x : List (Pair × Endpoint)). IsTable x new.slab.capacity) (sym list_led) (subst (λ (n : ℕ). IsTable (changed (values e.slab) (below e.slab.slots key) f) n) (sym (ap (λ (x : Slab (Pair × Endpoint)). x.capacity) led_now.slab)) (table_changed (values e.slab) (below e.slab.slots key) r f e.slab.capacity t.table (vals_at e.slab.slots key r at) same own by_peer hears uses));
        senders = index_now hears_link e.senders new.senders t.senders led_now.senders heard hears;
        receivers = index_now uses_link e.receivers new.receivers t.receivers led_now.receivers used uses;
        sending = sending_led heard;
      }

  pub ends_asked : {A : Type 0} (act : Effect A) (m : Ends) → from_entries (values e.slab) ≡ m → f ≡ after r act → from_entries {R = pair_cmp} (values new.slab) ≡ map_after m r.0 act
  ends_asked act m v is = map_acted (values e.slab) (below e.slab.slots key) r f (values new.slab) m act t.table.are v (vals_at e.slab.slots key r at) list_led is

-- A new entry.

abbrev pub Enters : List (Pair × Endpoint) → Pair × Endpoint → Type 0
Enters es f = record {
  none : find pair_cmp f.0 es ≡ None;
  over : is_ended f.1 ≡ false;
  own : count_by has_asked es + one f.1.asked ≤ 64;
  by_peer : count_by is_by_peer es + one (not f.1.asked) ≤ 64;
  hears : (on : ℕ) → hears_link on f ≡ true → count_by (hears_link on) es ≡ 0;
  uses : (on : ℕ) → uses_link on f ≡ true → count_by (uses_link on) es ≡ 0;
}

pub zero_from : (n : ℕ) → nat_lt 0 n ≡ false → n ≡ 0
zero_from n h = grind (arith, nat_tests)

-- a new entry that fits the ends fits the list
pub enters_list : (es : List (Pair × Endpoint)) (capacity : ℕ) (m : Ends) (f : Pair × Endpoint) → from_entries es ≡ m → IsTable es capacity → NewAmong m f → Enters es f
enters_list es capacity m f v t n =
    let own : count_by has_asked es + one f.1.asked ≤ 64 = go f.1.asked refl in
    let by_peer : count_by is_by_peer es + one (not f.1.asked) ≤ 64 = og f.1.asked refl in
    record {
      none = sym (get_is es f.0) ∙ ap (λ (x : Ends). map.get x f.0) v ∙ n.none;
      over = n.over;
      own = own;
      by_peer = by_peer;
      hears = λ on h. sym (counted (hears_link on) es m v t.are) ∙ zero_from (count (hears_link on) m) (n.hears on h);
      uses = λ on h. sym (counted (uses_link on) es m v t.are) ∙ zero_from (count (uses_link on) m) (n.uses on h);
    }
  where
    go : (b : Bool) → f.1.asked ≡ b → count_by has_asked es + one f.1.asked ≤ 64
    go true h = let o : one f.1.asked ≡ 1 = ap one h in let x = n.own h in let a : count has_asked m ≡ count_by has_asked es = counted has_asked es m v t.are in omega (arith, o, x, a)
    go false h = let o : one f.1.asked ≡ 0 = ap one h in let x = t.own in omega (arith, o, x)

    og : (b : Bool) → f.1.asked ≡ b → count_by is_by_peer es + one (not f.1.asked) ≤ 64
    og false h = let o : one (not f.1.asked) ≡ 1 = ap (λ x. one (not x)) h in let x = n.by_peer h in let a : count is_by_peer m ≡ count_by is_by_peer es = counted is_by_peer es m v t.are in omega (arith, o, x, a)
    og true h = let o : one (not f.1.asked) ≡ 0 = ap (λ x. one (not x)) h in let x = t.by_peer in omega (arith, o, x)

-- there is room for it
pub room_left : {S : Type 0} (e : Entries S) (f : Pair × Endpoint) → IsKept e → Enters (values e.slab) f → HasRoomFor e.slab 1
room_left e f t n = go f.1.asked refl
  where
    len : slab_len e.slab ≡ length (values e.slab)
    len = length-values e.slab.slots

    go : (b : Bool) → f.1.asked ≡ b → slab_len e.slab + 1 ≤ e.slab.capacity
    go true h = let o : one f.1.asked ≡ 1 = ap one h in let b = count_both (values e.slab) in let x = n.own in let l = len in omega (arith, b, o, x, l, t.table.by_peer, t.table.room)
    go false h = let o : one (not f.1.asked) ≡ 1 = ap (λ x. one (not x)) h in let b = count_both (values e.slab) in let x = n.by_peer in let l = len in omega (arith, b, o, x, l, t.table.own, t.table.room)

single_insert : (p : Pair × Endpoint → Bool) (es before : List (Pair × Endpoint)) (f : Pair × Endpoint) → count_by p before + one (p f) ≡ count_by p es → count_by p before ≤ 1 → (p f ≡ true → count_by p before ≡ 0) → count_by p es ≤ 1
single_insert p es before f c h z = go (p f) refl
  where
    go : (b : Bool) → p f ≡ b → count_by p es ≤ 1
    go true e = let o : one (p f) ≡ 1 = ap one e in let n : count_by p before ≡ 0 = z e in omega (arith, c, o, n)
    go false e = let o : one (p f) ≡ 0 = ap one e in omega (arith, c, o, h)

module _ {S : Type 0} (e new : Entries S) (key : ℕ) (f : Pair × Endpoint) (vacant : get e.slab key ≡ None) (p : Puts e new key (Some f) f (Some key)) where
  list_before : values e.slab ≡ remove (values new.slab) (below new.slab.slots key)
  list_before = vals_without new.slab.slots e.slab.slots key f p.updates.changed vacant (λ other d. sym (p.updates.others other d))

  placed : slice_get (values new.slab) (below new.slab.slots key) ≡ Some f
  placed = vals_at new.slab.slots key f p.updates.changed

  sum : (test : Pair × Endpoint → Bool) → count_by test (values e.slab) + one (test f) ≡ count_by test (values new.slab)
  sum test = ap (λ (xs : List (Pair × Endpoint)). count_by test xs + one (test f)) list_before ∙ count_remove test (values new.slab) (below new.slab.slots key) f placed

  index_entered : (test : ℕ → Pair × Endpoint → Bool) (keys later : List (Option ℕ)) → IsIndex test keys e.slab → LeadsTo test f (Some key) keys later → ((on : ℕ) → test on f ≡ true → count_by (test on) (values e.slab) ≡ 0) → IsIndex test later new.slab
  index_entered test keys later index leads free =
      index_led test keys e.slab index new.slab key f later p.updates leads
      (λ on h. let g : entry_passes (test on) (get e.slab key) ≡ false = ap (entry_passes (test on)) vacant in let b : true ≡ false = sym h ∙ g in absurd (cc))
      (λ on h. inr (free on h))

  pub entered_are : AreEntries (values e.slab) → Enters (values e.slab) f → AreEntries (values new.slab)
  entered_are are n =
      are_insert (values new.slab) (below new.slab.slots key) f.0 f.1 placed
      (subst AreEntries list_before are)
      (subst (λ (xs : List (Pair × Endpoint)). find pair_cmp f.0 xs ≡ None) list_before n.none)
      n.over

  sending_entered : IsKept e → Notes f e.sending new.sending → AreSending new.sending new.senders new.slab
  sending_entered t notes =
      let leads : (b : Bool) (on : ℕ) → hears_link on f ≡ b → key_at new.senders on ≡ cond b (Some key) (key_at e.senders on) = λ b on h. p.senders on ∙ ap (λ (x : Bool). cond x (Some key) (key_at e.senders on)) h in
      sending_changed e.senders new.senders e.slab new.slab key (Some f) t.senders p.updates e.sending new.sending f t.sending notes
      (λ on n. ap (entry_passes (hears_link on)) vacant)
      (λ on n. leads false on n)
      (λ on h. ap (λ (o : Option ℕ). sends_at o new.slab) (leads true on h) ∙ ap (entry_passes may_send_text) p.updates.changed)

  pub kept_entered : IsKept e → Notes f e.sending new.sending → Enters (values e.slab) f → IsKept new
  kept_entered t notes n =
      let a : count_by has_asked (values e.slab) + one f.1.asked ≡ count_by has_asked (values new.slab) = sum has_asked in
      let b : count_by is_by_peer (values e.slab) + one (not f.1.asked) ≡ count_by is_by_peer (values new.slab) = sum is_by_peer in
      let own : count_by has_asked (values new.slab) ≤ 64 = let x = n.own in omega (arith, a, x) in
      let by_peer : count_by is_by_peer (values new.slab) ≤ 64 = let x = n.by_peer in omega (arith, b, x) in
      record {
        table = record {
          are = entered_are t.table.are n;
          own = own;
          by_peer = by_peer;
          room = subst (λ (c : ℕ). 128 ≤ c) (sym p.capacity) t.table.room;
          hears = λ on. single_insert (hears_link on) (values new.slab) (values e.slab) f (sum (hears_link on)) (t.table.hears on) (n.hears on);
          uses = λ on. single_insert (uses_link on) (values new.slab) (values e.slab) f (sum (uses_link on)) (t.table.uses on) (n.uses on);
        };
        senders = index_entered hears_link e.senders new.senders t.senders p.senders n.hears;
        receivers = index_entered uses_link e.receivers new.receivers t.receivers p.receivers n.uses;
        sending = sending_entered t notes;
      }

  pub ends_entered : (m : Ends) → from_entries (values e.slab) ≡ m → IsKept e → Enters (values e.slab) f → from_entries {R = pair_cmp} (values new.slab) ≡ insert m f.0 f.1
  ends_entered m v t n =
      map_insert (values new.slab) (below new.slab.slots key) f.0 f.1 (entered_are t.table.are n) placed
      ∙ ap (λ (xs : List (Pair × Endpoint)). insert (from_entries {R = pair_cmp} xs) f.0 f.1) (sym list_before)
      ∙ ap (λ (x : Ends). insert x f.0 f.1) v

-- No entries.

module _ {S : Type 0} (e : Entries S) (empty : e.slab.slots ≡ []) where
  pub kept_empty : 128 ≤ e.slab.capacity → ((on : ℕ) → key_at e.senders on ≡ None) → ((on : ℕ) → key_at e.receivers on ≡ None) → ((on : ℕ) → is_in e.sending on ≡ false) → IsKept e
  kept_empty room senders receivers sending = record {
    table = subst (λ (xs : List (Pair × Endpoint)). IsTable xs e.slab.capacity) (sym (ap (λ (xs : List (Option (Pair × Endpoint))). vals xs) empty)) (record {
      are = tt;
      own = omega arith;
      by_peer = omega arith;
      room = room;
      hears = λ on. omega arith;
      uses = λ on. omega arith;
    });
    senders = no_entries hears_link e.senders e.slab senders empty;
    receivers = no_entries uses_link e.receivers e.slab receivers empty;
    sending = λ on. sending on ∙ sym (ap (λ (o : Option ℕ). sends_at o e.slab) (senders on));
  }

  pub ends_empty : from_entries {R = pair_cmp} (values e.slab) ≡ no_ends
  ends_empty = ap (λ (xs : List (Option (Pair × Endpoint))). from_entries {R = pair_cmp} (vals xs)) empty
