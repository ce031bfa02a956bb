-- Meant for other crates too: they cite what is public here.
--
-- What holds of all the ends of a host: each is sound and in its limits, and no two are on one link.
use Rattle.std.proofs.Common.{◌≡◌, ◌⊎◌, inl, inr, ℕ, ◌==◌, ◌≤◌, Bool, true, false, cond, not, ◌&&◌, ◌||◌, nat_le, Option, None, Some, refl, sym, ap, ◌∙◌, subst, arith}
use Rattle.std.specs.FinMap.{get, get-empty, get-insert, get-remove}
use Rattle.std.specs.Ordering.{eq_by_cmp}
use Rattle.std.proofs.lemmas.Bool.{eqb-true}
use Rattle.std.proofs.lemmas.Map.Views.{tells_apart}
use Rattle.ncp_wire.specs.declared.command.Command.{Command}
use Rattle.ncp_model.specs.declared.pair.Pair.{Pair}
use Rattle.ncp_model.specs.declared.limits.TheConstants.{MAX_OWN}
use Rattle.ncp_model.specs.Pairs.{pair_cmp}
use Rattle.ncp_model.specs.Endpoint.{Endpoint}
use Rattle.ncp_model.specs.Effect.{Effect, end_after}
use Rattle.ncp_model.specs.Ends.{Ends, count, any, has_asked, is_by_peer, hears_link, uses_link, free_link, map_after, no_ends, put}
use Rattle.ncp_model.specs.EndpointEvents.{EndpointEvent, happens}
use Rattle.ncp_model.specs.Demux.{suits, passes, comes}
use Rattle.ncp_proof_endpoint.specs.Limits.{InLimitsAt}
use Rattle.ncp_proof_endpoint.specs.Sound.{SoundAt}
use Rattle.ncp_proof_machine.specs.Hosts.{PairCall, Ask_to_receive, called}
use Rattle.ncp_model.proofs.PairOrder.{pairs_exact, pairs_total}
use Rattle.ncp_model.proofs.EndsAfter.{after-at, after-elsewhere}
use Rattle.ncp_model.proofs.FreeLinks.{free-free, free-room}
use Rattle.ncp_model.proofs.LinksDemux.{itself}
use Rattle.ncp_proof_endpoint.proofs.LimitsKept.{limits-after}
use Rattle.ncp_proof_endpoint.proofs.LinksStay.{brings_link, takes_link, heard-by, asked-by}
use Rattle.ncp_model.proofs.Lookups.{any-none}
use Rattle.ncp_proof_endpoint.proofs.SoundEnds.{sound-after}

pub record EndsInvariant (m : Ends) : Type 0 where
  pub sound : (pair : Pair) → SoundAt pair (get m pair)
  pub limits : (pair : Pair) → InLimitsAt pair (get m pair)
  pub heard : (l : ℕ) (p q : Pair) → passes (hears_link l) p (get m p) ≡ true → passes (hears_link l) q (get m q) ≡ true → p ≡ q
  pub asked : (l : ℕ) (p q : Pair) → passes (uses_link l) p (get m p) ≡ true → passes (uses_link l) q (get m q) ≡ true → p ≡ q

none-passes : (test : Pair × Endpoint → Bool) (p : Pair) → passes test p (get no_ends p) ≡ false
none-passes test p = ap (passes test p) (get-empty pair_cmp p)

pub none-good : EndsInvariant no_ends
none-good = record {
  sound = λ pair. subst (SoundAt pair) (sym (get-empty pair_cmp pair)) tt;
  limits = λ pair. subst (InLimitsAt pair) (sym (get-empty pair_cmp pair)) tt;
  heard = λ l p q h k. absurd (cc (h, none-passes (hears_link l) p));
  asked = λ l p q h k. absurd (cc (h, none-passes (uses_link l) p));
}

-- one end is changed, by what happens there
pub record Changes (m n : Ends) (pair : Pair) (what : EndpointEvent) : Type 0 where
  pub there : get n pair ≡ (happens pair what (get m pair)).after
  pub elsewhere : (q : Pair) → ((q ≡ pair) → ⊥) → get n q ≡ get m q

-- a link that it brings is on no end yet
pub record Fresh (m : Ends) (what : EndpointEvent) : Type 0 where
  pub heard : (l : ℕ) → brings_link l what ≡ true → any (hears_link l) m ≡ false
  pub asked : (l : ℕ) → takes_link l what ≡ true → any (uses_link l) m ≡ false

-- the pair, or another
pub same_or : (q pair : Pair) → (q ≡ pair) ⊎ ((q ≡ pair) → ⊥)
same_or q pair = go (eq_by_cmp pair_cmp q pair) refl
  where
    go : (b : Bool) → eq_by_cmp pair_cmp q pair ≡ b → (q ≡ pair) ⊎ ((q ≡ pair) → ⊥)
    go true t = inl (tells_apart pairs_exact q pair t)
    go false t = inr (λ e. let k = ap (eq_by_cmp pair_cmp q) e in absurd (cc (t, k, itself q)))

-- what holds of each end, and after this happened at one, holds of each
pub changed-each : (P : Pair → Option Endpoint → Type 0) (m n : Ends) (pair : Pair) (what : EndpointEvent) → Changes m n pair what
    → (P pair (get m pair) → P pair (happens pair what (get m pair)).after) → ((q : Pair) → P q (get m q)) → (q : Pair) → P q (get n q)
changed-each P m n pair what c after each q = go (same_or q pair)
  where
    go : (q ≡ pair) ⊎ ((q ≡ pair) → ⊥) → P q (get n q)
    go (inl e) = subst (λ r. P r (get n r)) (sym e) (subst (P pair) (sym c.there) (after (each pair)))
    go (inr d) = subst (P q) (sym (c.elsewhere q d)) (each q)

else_by : {A B C : Type 0} → (B → C) → A ⊎ B → A ⊎ C
else_by f (inl a) = inl a
else_by f (inr b) = inr (f b)

or_parts : (a b : Bool) → (a || b) ≡ true → (a ≡ true) ⊎ (b ≡ true)
or_parts true b h = inl refl
or_parts false b h = inr h

-- of two ends on one link that passes a test, one end having been changed
apart : (test : Pair × Endpoint → Bool) (m n : Ends) (pair : Pair) → ((q : Pair) → ((q ≡ pair) → ⊥) → get n q ≡ get m q)
    → (passes test pair (get n pair) ≡ true → (passes test pair (get m pair) ≡ true) ⊎ (any test m ≡ false))
    → ((p q : Pair) → passes test p (get m p) ≡ true → passes test q (get m q) ≡ true → p ≡ q)
    → (p q : Pair) → passes test p (get n p) ≡ true → passes test q (get n q) ≡ true → p ≡ q
apart test m n pair same here only p q h k = go (same_or p pair) (same_or q pair)
  where
    was : (r : Pair) → ((r ≡ pair) → ⊥) → passes test r (get n r) ≡ true → passes test r (get m r) ≡ true
    was r d h = ap (passes test r) (sym (same r d)) ∙ h

    mixed : (r : Pair) → ((r ≡ pair) → ⊥) → passes test r (get n r) ≡ true → passes test pair (get n pair) ≡ true → pair ≡ r
    mixed r d h k = by_old (here k)
      where
        by_old : (passes test pair (get m pair) ≡ true) ⊎ (any test m ≡ false) → pair ≡ r
        by_old (inl o) = only pair r o (was r d h)
        by_old (inr a) = let z = any-none test m a r in absurd (cc (z, was r d h))

    go : (p ≡ pair) ⊎ ((p ≡ pair) → ⊥) → (q ≡ pair) ⊎ ((q ≡ pair) → ⊥) → p ≡ q
    go (inl e) (inl f) = e ∙ sym f
    go (inl e) (inr f) = e ∙ mixed q f k (subst (λ r. passes test r (get n r) ≡ true) e h)
    go (inr e) (inl f) = sym (mixed p e h (subst (λ r. passes test r (get n r) ≡ true) f k)) ∙ sym f
    go (inr e) (inr f) = only p q (was p e h) (was q f k)

pub good-after : (m n : Ends) (pair : Pair) (what : EndpointEvent) → suits pair what ≡ true → Changes m n pair what → Fresh m what → EndsInvariant m → EndsInvariant n
good-after m n pair what s c f g = record {
  sound = changed-each SoundAt m n pair what c (sound-after pair what (get m pair)) g.sound;
  limits = changed-each InLimitsAt m n pair what c (limits-after pair what (get m pair) s (g.sound pair)) g.limits;
  heard = λ l. apart (hears_link l) m n pair c.elsewhere (heard_here l) (g.heard l);
  asked = λ l. apart (uses_link l) m n pair c.elsewhere (asked_here l) (g.asked l);
}
  where
    heard_here : (l : ℕ) → passes (hears_link l) pair (get n pair) ≡ true → (passes (hears_link l) pair (get m pair) ≡ true) ⊎ (any (hears_link l) m ≡ false)
    heard_here l h = else_by (f.heard l) (or_parts (passes (hears_link l) pair (get m pair)) (brings_link l what) (heard-by l pair what (get m pair) (g.sound pair) (ap (passes (hears_link l) pair) (sym c.there) ∙ h)))

    asked_here : (l : ℕ) → passes (uses_link l) pair (get n pair) ≡ true → (passes (uses_link l) pair (get m pair) ≡ true) ⊎ (any (uses_link l) m ≡ false)
    asked_here l h = else_by (f.asked l) (or_parts (passes (uses_link l) pair (get m pair)) (takes_link l what) (asked-by l pair what (get m pair) (g.sound pair) (ap (passes (uses_link l) pair) (sym c.there) ∙ h)))

-- How the ends are changed.

pub put-changes : (m : Ends) (pair : Pair) (what : EndpointEvent) → Changes m (put m pair (happens pair what (get m pair)).after) pair what
put-changes m pair what = record { there = at_it (happens pair what (get m pair)).after; elsewhere = λ q d. beside q d (happens pair what (get m pair)).after }
  where
    at_it : (after : Option Endpoint) → get (put m pair after) pair ≡ after
    at_it None = get-remove pairs_total m pair pair ∙ ap (λ b. cond b None (get m pair)) (itself pair)
    at_it (Some e) = get-insert pairs_total m pair e pair ∙ ap (λ b. cond b (Some e) (get m pair)) (itself pair)

    other : (q : Pair) → ((q ≡ pair) → ⊥) → eq_by_cmp pair_cmp q pair ≡ false
    other q d = go (eq_by_cmp pair_cmp q pair) refl
      where
        go : (b : Bool) → eq_by_cmp pair_cmp q pair ≡ b → eq_by_cmp pair_cmp q pair ≡ false
        go true t = absurd (d (tells_apart pairs_exact q pair t))
        go false t = t

    beside : (q : Pair) → ((q ≡ pair) → ⊥) → (after : Option Endpoint) → get (put m pair after) q ≡ get m q
    beside q d None = get-remove pairs_total m pair q ∙ ap (λ b. cond b None (get m q)) (other q d)
    beside q d (Some e) = get-insert pairs_total m pair e q ∙ ap (λ b. cond b (Some e) (get m q)) (other q d)

pub act-changes : {A : Type 0} → (m : Ends) (pair : Pair) (what : EndpointEvent) (act : Effect A) → (happens pair what (get m pair)).after ≡ end_after (get m pair) act → Changes m (map_after m pair act) pair what
act-changes m pair what act e = record { there = after-at m pair act ∙ sym e; elsewhere = λ q d. after-elsewhere m pair q act d }

-- What happens suits its pair, and brings no link that another end has.

pub called-suits : (pair : Pair) (call : PairCall) (full : Bool) (m : Ends) → suits pair (called call full m) ≡ true
called-suits pair call full m = grind arith

pub none-fresh : (m : Ends) (what : EndpointEvent) → ((l : ℕ) → brings_link l what ≡ false) → ((l : ℕ) → takes_link l what ≡ false) → Fresh m what
none-fresh m what b t = record { heard = λ l h. absurd (cc (h, b l)); asked = λ l h. absurd (cc (h, t l)) }

pub called-fresh : (call : PairCall) (full : Bool) (m : Ends) → Fresh m (called call full m)
called-fresh (Ask_to_receive with_room) full m = record { heard = λ l h. absurd (cc h); asked = λ l h. free l h }
  where
    free : (l : ℕ) → (free_link m == l && not (nat_le MAX_OWN (count has_asked m))) ≡ true → any (uses_link l) m ≡ false
    free l h =
        let a : (free_link m == l) ≡ true = grind arith in
        let few : count has_asked m ≤ MAX_OWN = grind arith in
        subst (λ (k : ℕ). any (uses_link k) m ≡ false) (eqb-true (free_link m) l a) (free-free m (free-room m few))
called-fresh call full m = none-fresh m (called call full m) (λ l. refl) (λ l. refl)

pub comes-fresh : (c : Command) (m : Ends) (what : EndpointEvent) → comes c m ≡ Some what → Fresh m what
comes-fresh c m what e = record { heard = λ l h. brought l c e h; asked = λ l h. absurd (cc (h, taken l c e)) }
  where
    not_taken : (on l : ℕ) (taken : Bool) → (on == l && not taken) ≡ true → (on ≡ l) × (taken ≡ false)
    not_taken on l taken h = let a : (on == l) ≡ true = grind arith in (eqb-true on l a, grind arith)

    brought : (l : ℕ) (c : Command) → comes c m ≡ Some what → brings_link l what ≡ true → any (hears_link l) m ≡ false
    brought l (Command.Rts receive send on) e h =
        let same : EndpointEvent.Rts_comes on (any (hears_link on) m) (count is_by_peer m) ≡ what = cc e in
        let k : brings_link l (EndpointEvent.Rts_comes on (any (hears_link on) m) (count is_by_peer m)) ≡ true = ap (brings_link l) same ∙ h in
        let p = not_taken on l (any (hears_link on) m) k in
        subst (λ (i : ℕ). any (hears_link i) m ≡ false) p.0 p.1
    brought l c e h = absurd (cc (e, h))

    taken : (l : ℕ) (c : Command) → comes c m ≡ Some what → takes_link l what ≡ false
    taken l c e = grind arith
