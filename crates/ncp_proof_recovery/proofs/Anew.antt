-- Two hosts of which one has asked the other to begin anew, and two that do: what becomes of their phases, and of what
-- is underway between them.
use Rattle.std.proofs.Common.{◌≡◌, ℕ, ◌+◌, ◌<◌, Bool, true, false, not, ◌&&◌, if◌then◌else◌, List, [], ◌∷◌, ◌++◌, inl, inr, ◌⊎◌, take, drop, refl, sym, ap, ◌∙◌, subst, arith}
use Rattle.std.specs.List.{list_any}
use Rattle.std.proofs.lemmas.Bool.{both_ways, cond_both}
use Rattle.std.proofs.lemmas.List.{append_assoc, take-append-drop}
use Rattle.ncp_wire.specs.declared.command.Command.{Command}
use Rattle.ncp_wire.specs.declared.command.Command.TheVariants.{Rst, Rrp}
use Rattle.ncp_model.specs.Phase.{Phase, is_rst, is_rrp, is_other, phase_answers, phase_asks, owes_answer, hears_rrp}
use Rattle.ncp_model.proofs.ResetLists.{bit, rsts, rrps, others, purged, after_rst, rsts-append, rrps-append, rsts-purged, any-rsts, any-rrps}
use Rattle.ncp_proof_machine.specs.Resets.{ResetHost, is_up, anew, host_settles}
use Rattle.ncp_proof_machine.proofs.ResetKept.{Kept, answering}
use Rattle.ncp_proof_headline.proofs.Lives.{fronts, behind, live, fronts_other, after_other, after_new, live_rst, live_cut, rrps_cut, owed}

-- a host that is not down, or owes an RRP, by which it comes up
abbrev pub Rises : ResetHost → Type 0
Rises h = (h.phase.down && not h.phase.owe) ≡ false

-- both begin anew, where x and y are on the lines: nothing is underway that would act at the other
abbrev pub Anew : ResetHost → ResetHost → List Command → List Command → Type 0
Anew h k x y = record {
  this : Rises h;
  that : Rises k;
  there : live k.phase.wait (x ++ h.phase.waiting) ≡ [];
  back : live h.phase.wait (y ++ k.phase.waiting) ≡ [];
}

-- a host is about to make its RST, or has made it and it has not come
abbrev pub Asked : ResetHost → List Command → Type 0
Asked h x = (h.phase.want ≡ true) ⊎ ((0 < rsts (x ++ h.phase.waiting)) × (h.phase.down ≡ false))

pub anew-counterpart : (h k : ResetHost) (x y : List Command) → Anew h k x y → Anew k h y x
anew-counterpart h k x y a = record { this = a.that; that = a.this; there = a.back; back = a.there }

-- Lists in which nothing lives.

fronts-calm : (u : List Command) → others u ≡ [] → fronts u ≡ []
fronts-calm [] e = refl
fronts-calm (Rst ∷ u) e = refl
fronts-calm (Rrp ∷ u) e = refl
fronts-calm (c ∷ u) e = absurd (cc e)

behind-calm : (u : List Command) → others u ≡ [] → behind u ≡ []
behind-calm [] e = refl
behind-calm (Rst ∷ u) e = behind-calm u e
behind-calm (Rrp ∷ u) e = fronts-calm u e
behind-calm (c ∷ u) e = absurd (cc e)

live-calm : (b : Bool) (u : List Command) → others u ≡ [] → live b u ≡ []
live-calm true u e = behind-calm u e
live-calm false u e = fronts-calm u e

pub behind-none : (u : List Command) → rrps u ≡ 0 → behind u ≡ []
behind-none [] p = refl
behind-none (Rrp ∷ u) p = absurd (omega arith)
behind-none (d ∷ u) p = behind-none u (omega arith)

nil-front : (u v : List Command) → u ++ v ≡ [] → u ≡ []
nil-front [] v e = refl
nil-front (c ∷ u) v e = cc

live-purged : (b : Bool) (x q : List Command) → live b (x ++ q) ≡ [] → live b (x ++ purged q) ≡ []
live-purged b x q e = let c = live_cut b x q in nil-front (live b (x ++ purged q)) c.0 (c.1 ∙ e)

none-any : (q : List Command) → rrps q ≡ 0 → list_any is_rrp q ≡ false
none-any q e = grind (arith, any-rrps, e)

rrp-lives : (x q : List Command) → rrps (x ++ q) ≡ 0 → behind (x ++ (if list_any is_rrp q then q else q ++ Rrp ∷ [])) ≡ []
rrp-lives x q p = let z : rrps q ≡ 0 = omega (arith, rrps-append x q, p) in rw (none-any q z, sym (append_assoc x q (Rrp ∷ []))) (after_new (x ++ q) p)

rst-same : (b : Bool) (x q : List Command) → live b (x ++ (if list_any is_rst q then q else q ++ Rst ∷ [])) ≡ live b (x ++ q)
rst-same b x q = cond_both (list_any is_rst q) q (q ++ Rst ∷ []) (λ (l : List Command). live b (x ++ l) ≡ live b (x ++ q)) (λ e. refl) (λ e. rw (sym (append_assoc x q (Rst ∷ []))) (live_rst b (x ++ q)))

rst-there : (x q : List Command) → 0 < rsts (x ++ (if list_any is_rst q then q else q ++ Rst ∷ []))
rst-there x q = grind (arith, rsts-append, any-rsts)

rsts-rrp : (x q : List Command) → 0 < rsts (x ++ q) → 0 < rsts (x ++ (if list_any is_rrp q then q else q ++ Rrp ∷ []))
rsts-rrp x q r = grind (arith, rsts-append)

rsts-struck : (x q : List Command) → 0 < rsts (x ++ q) → 0 < rsts (x ++ purged q)
rsts-struck x q r = grind (arith, rsts-append, rsts-purged)

-- The phases of settling.

abbrev answered : Phase → Phase
answered p = record p { down = false; owe = false; waiting = if list_any is_rrp p.waiting then p.waiting else p.waiting ++ Rrp ∷ [] }

abbrev asked : Phase → Phase
asked p = record p { down = false; want = false; wait = true; waiting = if list_any is_rst p.waiting then p.waiting else p.waiting ++ Rst ∷ [] }

abbrev with_phase : ResetHost → Phase → ResetHost
with_phase h p = record h { phase = p }

-- A host that has asked.

pub asked-not-up : (h k : ResetHost) (x y : List Command) → Kept h k x y → Asked h x → is_up h ≡ false
asked-not-up h k x y p (inl w) = grind (arith, w)
asked-not-up h k x y p (inr (r, d)) = grind (arith, p.there.count, r)

answers-asked : (h : ResetHost) (x : List Command) → Asked h x → Asked (with_phase h (phase_answers h.phase)) x
answers-asked h x a = cond_both h.phase.owe (answered h.phase) h.phase (λ (p : Phase). Asked (with_phase h p) x) (λ _. made a) (λ _. a)
  where
    made : Asked h x → Asked (with_phase h (answered h.phase)) x
    made (inl w) = inl w
    made (inr (r, d)) = inr (rsts-rrp x h.phase.waiting r, refl)

asks-asked : (h : ResetHost) (x : List Command) → Asked h x → Asked (with_phase h (phase_asks h.phase)) x
asks-asked h x a = cond_both h.phase.want (asked h.phase) h.phase (λ (p : Phase). Asked (with_phase h p) x) (λ _. inr (rst-there x h.phase.waiting, refl)) (λ _. a)

pub settles-asked : (quiet : Bool) (h : ResetHost) (x : List Command) → Asked h x → Asked (host_settles quiet h) x
settles-asked true h x a = asks-asked (with_phase h (phase_answers h.phase)) x (answers-asked h x a)
settles-asked false h x a = a

pub rst-asked : (h : ResetHost) (x : List Command) → Asked h x → Asked (anew (owes_answer h.phase)) x
rst-asked h x (inl w) = inl w
rst-asked h x (inr (r, d)) = inr (rsts-struck x h.phase.waiting r, d)

-- what comes to its peer is not yet its RST
pub other-asked : (k : ResetHost) (c : Command) (y : List Command) → is_rst c ≡ false → Asked k (c ∷ y) → Asked k y
other-asked k c y n (inl w) = inl w
other-asked k c y n (inr (r, d)) = let z : bit (is_rst c) ≡ 0 = ap bit n in inr (omega (arith, r, z), d)

-- Two that begin anew.

answers-anew : (h k : ResetHost) (x y : List Command) → Kept h k x y → Anew h k x y → Anew (with_phase h (phase_answers h.phase)) k x y
answers-anew h k x y p a = cond_both h.phase.owe (answered h.phase) h.phase (λ (q : Phase). Anew (with_phase h q) k x y) made (λ _. a)
  where
    made : h.phase.owe ≡ true → Anew (with_phase h (answered h.phase)) k x y
    made e =
        let due = owed h k x y p e in
        record { this = refl; that = a.that; there = rw (due.0) (rrp-lives x h.phase.waiting due.1); back = a.back }

asks-anew : (h k : ResetHost) (x y : List Command) → Kept h k x y → Anew h k x y → Anew (with_phase h (phase_asks h.phase)) k x y
asks-anew h k x y p a = cond_both h.phase.want (asked h.phase) h.phase (λ (q : Phase). Anew (with_phase h q) k x y) made (λ _. a)
  where
    made : h.phase.want ≡ true → Anew (with_phase h (asked h.phase)) k x y
    made e =
        let w : bit h.phase.wait ≡ 0 = ap bit (p.this.wants e) in
        let c = p.there.count in
        record { this = refl; that = a.that; there = rst-same k.phase.wait x h.phase.waiting ∙ a.there; back = behind-none (y ++ k.phase.waiting) (omega (arith, c, w)) }

pub settles-anew : (quiet : Bool) (h k : ResetHost) (x y : List Command) → Kept h k x y → Anew h k x y → Anew (host_settles quiet h) k x y
settles-anew true h k x y p a = asks-anew (with_phase h (phase_answers h.phase)) k x y (answering h k x y p) (answers-anew h k x y p a)
settles-anew false h k x y p a = a

and-false : (b : Bool) → (b && false) ≡ false
and-false true = refl
and-false false = refl

-- an RST comes: where both begin anew; and from a host that has asked
pub rst-anew : (h k : ResetHost) (x y : List Command) → Kept h k x (Rst ∷ y) → Anew h k x (Rst ∷ y) → Anew (anew (owes_answer h.phase)) k x y
rst-anew h k x y p a = record {
  this = and-false h.phase.down;
  that = a.that;
  there = live-purged k.phase.wait x h.phase.waiting a.there;
  back = live-calm h.phase.wait (y ++ k.phase.waiting) p.here.still;
}

pub rst-begins : (h k : ResetHost) (x y : List Command) → Kept h k x (Rst ∷ y) → Asked k (Rst ∷ y) → Anew (anew (owes_answer h.phase)) k x y
rst-begins h k x y p a = record {
  this = and-false h.phase.down;
  that = rises a;
  there = subst (λ (b : Bool). live b (x ++ purged h.phase.waiting) ≡ []) (sym waits) (behind-none (x ++ purged h.phase.waiting) (rrps_cut x h.phase.waiting ∙ none));
  back = live-calm h.phase.wait (y ++ k.phase.waiting) p.here.still;
}
  where
    waits : k.phase.wait ≡ true
    waits = grind (arith, p.here.count)

    none : rrps (x ++ h.phase.waiting) ≡ 0
    none = grind (arith, p.here.count)

    rises : Asked k (Rst ∷ y) → Rises k
    rises (inl w) = absurd (both_ways k.phase.wait (p.that.wants w) waits)
    rises (inr (r, d)) = ap (λ (b : Bool). b && not k.phase.owe) d

-- the RRP comes
pub rrp-anew : (h k : ResetHost) (x y : List Command) → Kept h k x (Rrp ∷ y) → Anew h k x (Rrp ∷ y) → Anew (with_phase h (hears_rrp h.phase)) k x y
rrp-anew h k x y p a = record {
  this = a.this;
  that = a.that;
  there = a.there;
  back = subst (λ (b : Bool). live b (Rrp ∷ (y ++ k.phase.waiting)) ≡ []) waits a.back;
}
  where
    waits : h.phase.wait ≡ true
    waits = grind (arith, p.there.count)

-- what else is underway comes to a host that waits, and is dropped
pub drop-anew : (h k : ResetHost) (x y : List Command) (c : Command) → is_other c ≡ true → Anew h k x (c ∷ y) → Anew h k x y
drop-anew h k x y c o a = record { this = a.this; that = a.that; there = a.there; back = go h.phase.wait a.back }
  where
    go : (b : Bool) → live b (c ∷ (y ++ k.phase.waiting)) ≡ [] → live b (y ++ k.phase.waiting) ≡ []
    go true e = sym (after_other c (y ++ k.phase.waiting) o) ∙ e
    go false e = absurd (cc (sym (fronts_other c (y ++ k.phase.waiting) o) ∙ e))

pub up-hears-none : (h k : ResetHost) (x y : List Command) (c : Command) → is_other c ≡ true → is_up h ≡ true → Anew h k x (c ∷ y) → ⊥
up-hears-none h k x y c o u a =
    let w : h.phase.wait ≡ false = grind (arith, u) in
    let e : live false (c ∷ (y ++ k.phase.waiting)) ≡ [] = subst (λ (b : Bool). live b (c ∷ (y ++ k.phase.waiting)) ≡ []) w a.back in
    cc (sym (fronts_other c (y ++ k.phase.waiting) o) ∙ e)

-- The front of what waits goes onto the empty line.

abbrev sent : ℕ → ResetHost → ResetHost
sent n h = record h { phase = record h.phase { waiting = drop n h.phase.waiting } }

pub front-asked : (n : ℕ) (h : ResetHost) → Asked h [] → Asked (sent n h) (take n h.phase.waiting)
front-asked n h (inl w) = inl w
front-asked n h (inr (r, d)) = inr (subst (λ (u : List Command). 0 < rsts u) (sym (take-append-drop n h.phase.waiting)) r, d)

pub front-anew : (n : ℕ) (h k : ResetHost) (y : List Command) → Anew h k [] y → Anew (sent n h) k (take n h.phase.waiting) y
front-anew n h k y a = record {
  this = a.this;
  that = a.that;
  there = subst (λ (u : List Command). live k.phase.wait u ≡ []) (sym (take-append-drop n h.phase.waiting)) a.there;
  back = a.back;
}
