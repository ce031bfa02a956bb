-- For a connection that was observed to be requested by the host, and not closed by the other, the host
-- has an end, regardless of queued commands. The end is as observed, except for a queued CLS. And the
-- link of that end identifies it.
use Rattle.std.proofs.Common.{◌≡◌, ℕ, ◌==◌, Bool, true, false, not, ◌&&◌, ◌||◌, if◌then◌else◌, List, [], ◌∷◌, Option, None, Some, is_some, ◌⊎◌, inl, inr, eq-eqb, refl, sym, ap, ◌∙◌, subst}
use Rattle.std.specs.FinMap.{get}
use Rattle.std.proofs.lemmas.Bool.{eqb-true, and_parts}
use Rattle.ncp_model.specs.declared.pair.Pair.{Pair}
use Rattle.ncp_model.specs.Pairs.{sends, receives}
use Rattle.ncp_model.specs.Endpoint.{Endpoint, is_closing}
use Rattle.ncp_model.specs.Ends.{Ends, hears_link, uses_link, sender_on, receiver_on, pair_of, end_of}
use Rattle.ncp_model.specs.Demux.{passes}
use Rattle.ncp_model.proofs.LinksDemux.{led}
use Rattle.ncp_model.proofs.Lookups.{looked-up}
use Rattle.ncp_proof_machine.proofs.EndsGood.{EndsInvariant}
use Rattle.ncp_monitor.proofs.Shapes.{Shape, Say, Ask, Leave, Agrees, legal}
use Rattle.ncp_proof_monitor_allocation.proofs.KeptEnds.{of_end, kept, number_if}

-- ---- what waits of it

-- nothing, or its CLS
pub data Standing (q : List Say) (e : Option Shape) (s : Shape) : Type 0 where
  Stands : q ≡ [] → e ≡ Some s → Standing q e s
  Leaves : q ≡ Leave ∷ [] → s.left ≡ false → e ≡ Some (record s { left = true }) → Standing q e s

asked_no_more : (n k : ℕ) (s : Shape) → s.own ≡ Some k → legal (Ask n) (Some s) ≡ true → ⊥
asked_no_more n k s o l = let nay : (not true && not s.left) ≡ true = ap (λ (x : Option ℕ). not (is_some x) && not s.left) (sym o) ∙ l in cc nay

unleft : (s : Shape) → legal Leave (Some s) ≡ true → s.left ≡ false
unleft s l = go s.left l
  where
    go : (x : Bool) → not x ≡ true → x ≡ false
    go true e = absurd (cc e)
    go false e = refl

-- one that left says nothing more
left_quiet : (q : List Say) (e : Option Shape) (s : Shape) (k : ℕ) → s.own ≡ Some k → s.left ≡ true → Agrees q e (Some s) → (q ≡ []) × (e ≡ Some s)
left_quiet [] e s k o l a = (refl, sym a)
left_quiet (Ask n ∷ q) e s k o l (r, a) = absurd (asked_no_more n k s o r)
left_quiet (Leave ∷ q) e s k o l (r, a) = absurd (cc (l, unleft s r))

pub open_stays : (q : List Say) (e : Option Shape) (s : Shape) (k : ℕ) → s.own ≡ Some k → s.cls ≡ false → Agrees q e (Some s) → Standing q e s
open_stays [] e s k o c a = Stands refl (sym a)
open_stays (Ask n ∷ q) e s k o c (r, a) = absurd (asked_no_more n k s o r)
open_stays (Leave ∷ q) e s k o c (r, a) =
    let is = left_quiet q e (record s { left = true }) k o refl (subst (λ (x : Bool). Agrees q e (if x then None else Some (record s { left = true }))) c a) in
    Leaves (ap (λ (x : List Say). Leave ∷ x) is.0) (unleft s r) is.1

-- ---- the end

pub record EndThere (o : Option Endpoint) (sending : Bool) (on : ℕ) (q : List Say) (s : Shape) : Type 0 where
  pub end : Endpoint
  pub there : o ≡ Some end
  pub asked : end.asked ≡ true
  pub heard : end.heard ≡ is_some s.others
  pub its_link : (if sending then end.heard else end.asked) ≡ true → end.link ≡ on
  pub others : (of_end sending end).others ≡ s.others
  pub unclosed : end.cls ≡ false
  -- of its CLS: none waits, or it is the one thing that waits, and the end is left
  pub waits : ((q ≡ []) × (end.left ≡ s.left)) ⊎ ((q ≡ Leave ∷ []) × ((s.left ≡ false) × (end.left ≡ true)))

-- where it is not on its way out, no CLS waits
pub still_there : (o : Option Endpoint) (sending : Bool) (on : ℕ) (q : List Say) (s : Shape) (at : EndThere o sending on q s) → is_closing at.end ≡ false → (q ≡ []) × (s.left ≡ false)
still_there o sending on q s at g = go at.waits
  where
    stays : (x y : Bool) → (x || y) ≡ false → y ≡ false
    stays true y e = absurd (cc e)
    stays false y e = e

    go : ((q ≡ []) × (at.end.left ≡ s.left)) ⊎ ((q ≡ Leave ∷ []) × ((s.left ≡ false) × (at.end.left ≡ true))) → (q ≡ []) × (s.left ≡ false)
    go (inl k) = (k.0, sym k.1 ∙ stays at.end.leaving at.end.left g)
    go (inr k) = absurd (cc (k.1.1, stays at.end.leaving at.end.left g))

number_there : (x : Bool) (n k : ℕ) → number_if x n ≡ Some k → (x ≡ true) × (n ≡ k)
number_there true n k e = (refl, cc e)
number_there false n k e = absurd (cc e)

number_some : (x : Bool) (n : ℕ) → is_some (number_if x n) ≡ x
number_some true n = refl
number_some false n = refl

pub end_there : (o : Option Endpoint) (sending : Bool) (on k : ℕ) (q : List Say) (s : Shape) → Agrees q (kept sending o) (Some s) → s.own ≡ Some k → s.cls ≡ false
    → (if sending then s.others else s.own) ≡ Some on → EndThere o sending on q s
end_there o sending on k q s a own c given = go (open_stays q (kept sending o) s k own c a)
  where
    at : (e : Endpoint) (t : Shape) → o ≡ Some e → of_end sending e ≡ t → t.own ≡ s.own → t.others ≡ s.others → t.cls ≡ s.cls
        → ((q ≡ []) × (e.left ≡ s.left)) ⊎ ((q ≡ Leave ∷ []) × ((s.left ≡ false) × (e.left ≡ true))) → EndThere o sending on q s
    at e t f is same_own same_others same_cls w = record {
      end = e;
      there = f;
      asked = (number_there e.asked (if sending then e.size else e.link) k (ap (λ (x : Shape). x.own) is ∙ same_own ∙ own)).0;
      heard = sym (number_some e.heard (if sending then e.link else e.size)) ∙ ap is_some (ap (λ (x : Shape). x.others) is ∙ same_others);
      its_link = by sending refl;
      others = ap (λ (x : Shape). x.others) is ∙ same_others;
      unclosed = ap (λ (x : Shape). x.cls) is ∙ same_cls ∙ c;
      waits = w;
    }
      where
        by : (x : Bool) → sending ≡ x → (if x then e.heard else e.asked) ≡ true → e.link ≡ on
        by true z h =
            let of : number_if e.heard e.link ≡ Some on =
            ap (λ (y : Bool). number_if e.heard (if y then e.link else e.size)) (sym z) ∙ ap (λ (x : Shape). x.others) is ∙ same_others ∙ ap (λ (y : Bool). if y then s.others else s.own) (sym z) ∙ given in
            (number_there e.heard e.link on of).1
        by false z h =
            let of : number_if e.asked e.link ≡ Some on =
            ap (λ (y : Bool). number_if e.asked (if y then e.size else e.link)) (sym z) ∙ ap (λ (x : Shape). x.own) is ∙ same_own ∙ ap (λ (y : Bool). if y then s.others else s.own) (sym z) ∙ given in
            (number_there e.asked e.link on of).1

    kept_there : (x : Option Endpoint) (t : Shape) → o ≡ x → kept sending x ≡ Some t → (e : Endpoint) × ((o ≡ Some e) × (of_end sending e ≡ t))
    kept_there None t f k = absurd (cc k)
    kept_there (Some e) t f k = (e, (f, cc k))

    go : Standing q (kept sending o) s → EndThere o sending on q s
    go (Stands w f) =
        let e = kept_there o s refl f in
        at e.0 s e.1.0 e.1.1 refl refl refl (inl (w, ap (λ (x : Shape). x.left) e.1.1))
    go (Leaves w l f) =
        let e = kept_there o (record s { left = true }) refl f in
        at e.0 (record s { left = true }) e.1.0 e.1.1 refl refl refl (inr (w, (l, ap (λ (x : Shape). x.left) e.1.1)))

-- ---- its link leads to it

module _ (m : Ends) (good : EndsInvariant m) (on : ℕ) where
  passing : (test : Pair × Endpoint → Bool) (p : Pair) (x : Endpoint) → get m p ≡ Some x → test (p, x) ≡ true → passes test p (get m p) ≡ true
  passing test p x g t = ap (passes test p) g ∙ t

  pub sender_led : (pair : Pair) (e : Endpoint) → get m pair ≡ Some e → sends pair ≡ true → e.heard ≡ true → e.link ≡ on → sender_on on m ≡ Some (pair, e)
  sender_led pair e g s h l = looked-up (hears_link on) m pair e g t (λ p x f k. good.heard on p pair (passing (hears_link on) p x f k) (passing (hears_link on) pair e g t))
    where
      t : hears_link on (pair, e) ≡ true
      t = rw (s, h, l, eq-eqb on on refl) refl

  pub receiver_led : (pair : Pair) (e : Endpoint) → get m pair ≡ Some e → receives pair ≡ true → e.asked ≡ true → e.link ≡ on → receiver_on on m ≡ Some (pair, e)
  receiver_led pair e g s h l = looked-up (uses_link on) m pair e g t (λ p x f k. good.asked on p pair (passing (uses_link on) p x f k) (passing (uses_link on) pair e g t))
    where
      t : uses_link on (pair, e) ≡ true
      t = rw (s, h, l, eq-eqb on on refl) refl

-- ---- and where it leads, an end is that has it

pub record Led (m : Ends) (on : ℕ) (is_of_sex is_given : Bool) (pair : Pair) (e : Endpoint) : Type 0 where
  pub there : get m pair ≡ Some e
  pub sex : is_of_sex ≡ true
  pub marked : is_given ≡ true
  pub its_link : e.link ≡ on

pub led_sender : (m : Ends) (on : ℕ) (pair : Pair) (e : Endpoint) → sender_on on m ≡ Some (pair, e) → Led m on (sends pair) e.heard pair e
led_sender m on pair e f =
    let l = led (hears_link on) m pair (ap pair_of f) in
    let there : get m pair ≡ Some e = l.0 ∙ ap end_of f in
    let outer = and_parts (sends pair && e.heard) (e.link == on) (sym (ap (passes (hears_link on) pair) there) ∙ l.1) in
    let inner = and_parts (sends pair) e.heard outer.0 in
    record { there = there; sex = inner.0; marked = inner.1; its_link = eqb-true e.link on outer.1 }

pub led_receiver : (m : Ends) (on : ℕ) (pair : Pair) (e : Endpoint) → receiver_on on m ≡ Some (pair, e) → Led m on (receives pair) e.asked pair e
led_receiver m on pair e f =
    let l = led (uses_link on) m pair (ap pair_of f) in
    let there : get m pair ≡ Some e = l.0 ∙ ap end_of f in
    let outer = and_parts (receives pair && e.asked) (e.link == on) (sym (ap (passes (uses_link on) pair) there) ∙ l.1) in
    let inner = and_parts (receives pair) e.asked outer.0 in
    record { there = there; sex = inner.0; marked = inner.1; its_link = eqb-true e.link on outer.1 }
