-- All connections tally, where one end is changed: by what the host says of it, and by what it hears.
use Rattle.std.proofs.Common.{◌≡◌, ℕ, ◌==◌, Bool, true, false, ◌&&◌, if◌then◌else◌, List, [], ◌∷◌, ◌++◌, Option, None, Some, eq-eqb, refl, sym, ap, ◌∙◌, subst, arith}
use Rattle.std.specs.FinMap.{get}
use Rattle.ncp_wire.specs.declared.command.Command.{Command}
use Rattle.ncp_model.specs.declared.pair.Pair.{Pair}
use Rattle.ncp_model.specs.declared.outcomes.Heard.{Heard}
use Rattle.ncp_model.specs.Pairs.{sends, receives}
use Rattle.ncp_model.specs.Endpoint.{Endpoint}
use Rattle.ncp_model.specs.Effect.{Effect, answer, made_by_hearing, end_after}
use Rattle.ncp_model.specs.Ends.{Ends, any, uses_link}
use Rattle.ncp_model.specs.Demux.{passes}
use Rattle.ncp_model.proofs.Lookups.{any-none}
use Rattle.ncp_monitor.proofs.Shapes.{Shape, Say, Ask, Leave, legal, own_step, their_legal, their_step}
use Rattle.ncp_monitor.proofs.LinkOrder.{Sockets, same, same_is, put, Lacks, number_of}
use Rattle.ncp_proof_monitor_allocation.proofs.KeptEnds.{kept}
use Rattle.ncp_proof_monitor_allocation.proofs.OwnMoves.{all_says, sockets_of, Moved, Silent, Says}
use Rattle.ncp_proof_monitor_allocation.proofs.HeardMoves.{Closed, Known, Matched}
use Rattle.ncp_proof_monitor_allocation.proofs.Tallies.{Tallies, asks_tallies, leaves_tallies, hears_tallies, suspended_tally}

abbrev pub pair_at : Sockets → Pair
pair_at u = record { local = u.0; remote = u.1 }

-- what the host keeps of each connection
abbrev pub kept_of : Ends → Sockets → Option Shape
kept_of m u = kept (sends (pair_at u)) (get m (pair_at u))

-- one end is another
pub record OneEnd (m n : Ends) (pair : Pair) (after : Option Endpoint) : Type 0 where
  pub there : get n pair ≡ after
  pub elsewhere : (q : Pair) → ((q ≡ pair) → ⊥) → get n q ≡ get m q

pub unlike : (u p : Sockets) → same u p ≡ false → pair_at u ≡ pair_at p → ⊥
unlike u p d e =
    let s : same u p ≡ true = ap (λ (q : Pair). same (q.local, q.remote) p) e ∙ itself p in
    let nay : true ≡ false = sym s ∙ d in cc nay
  where
    itself : (v : Sockets) → same v v ≡ true
    itself (a, b) = rw (eq-eqb a a refl, eq-eqb b b refl) refl

-- by the shapes
pub one_shape : (m n : Ends) (pair : Pair) (after : Option Endpoint) (s : Option Shape) → OneEnd m n pair after → kept (sends pair) after ≡ s → (u : Sockets) → kept_of n u ≡ put (kept_of m) (sockets_of pair) s u
one_shape m n pair after s o k u = go (same u (sockets_of pair)) refl
  where
    go : (b : Bool) → same u (sockets_of pair) ≡ b → kept_of n u ≡ (if b then s else kept_of m u)
    go true e = ap (kept_of n) (same_is u (sockets_of pair) e) ∙ ap (kept (sends pair)) o.there ∙ k
    go false e = ap (kept (sends (pair_at u))) (o.elsewhere (pair_at u) (unlike u (sockets_of pair) e))

-- as it was
put_same : (f : Sockets → Option Shape) (p u : Sockets) → put f p (f p) u ≡ f u
put_same f p u = go (same u p) refl
  where
    go : (b : Bool) → same u p ≡ b → (if b then f p else f u) ≡ f u
    go true e = ap f (sym (same_is u p e))
    go false e = refl

module _ (receives : Sockets → Bool) (links : ℕ → Bool) (suspended : Sockets → Bool) (m n : Ends) (pair : Pair) (w : List (Sockets × Say)) (o : Sockets → Option Shape) where
  -- shapes that are the same tally the same
  as_kept : (w : List (Sockets × Say)) (d e : Sockets → Option Shape) → ((u : Sockets) → d u ≡ e u) → Tallies receives links suspended w e o → Tallies receives links suspended w d o
  as_kept w d e h t = suspended_tally receives links suspended links suspended w e o d o (λ k z. z) (λ u r. (r, (h u, refl))) t

  -- the host says something of it, or nothing; a receiver asks with a link that no receiver has
  pub moved_tally : (after : Option Endpoint) (made : List Command) → OneEnd m n pair after → Moved (sends pair) pair (get m pair) after made
      → ((k : ℕ) → all_says made ≡ (sockets_of pair, Ask k) ∷ [] → receives (sockets_of pair) ≡ true → (u : Sockets) → receives u ≡ true → Lacks k (kept_of m u))
      → Tallies receives links suspended w (kept_of m) o → Tallies receives links suspended (w ++ all_says made) (kept_of n) o
  moved_tally after made one (Silent none s) free t =
      subst (λ (x : List (Sockets × Say)). Tallies receives links suspended (w ++ x) (kept_of n) o) (sym none)
      (subst (λ (x : List (Sockets × Say)). Tallies receives links suspended x (kept_of n) o) (sym (nil w))
      (as_kept w (kept_of n) (kept_of m) (λ u. one_shape m n pair after (kept (sends pair) (get m pair)) one s u ∙ put_same (kept_of m) (sockets_of pair) u) t))
    where
      nil : (x : List (Sockets × Say)) → x ++ [] ≡ x
      nil [] = refl
      nil (y ∷ ys) = ap (λ (zs : List (Sockets × Say)). y ∷ zs) (nil ys)
  moved_tally after made one (Says (Ask k) said l s) free t =
      subst (λ (x : List (Sockets × Say)). Tallies receives links suspended (w ++ x) (kept_of n) o) (sym said)
      (as_kept (w ++ (sockets_of pair, Ask k) ∷ []) (kept_of n) (put (kept_of m) (sockets_of pair) (own_step (Ask k) (kept_of m (sockets_of pair))))
      (one_shape m n pair after (own_step (Ask k) (kept_of m (sockets_of pair))) one s)
      (asks_tallies receives links suspended w (kept_of m) o (sockets_of pair) k l (free k said) t))
  moved_tally after made one (Says Leave said l s) free t =
      subst (λ (x : List (Sockets × Say)). Tallies receives links suspended (w ++ x) (kept_of n) o) (sym said)
      (as_kept (w ++ (sockets_of pair, Leave) ∷ []) (kept_of n) (put (kept_of m) (sockets_of pair) (own_step Leave (kept_of m (sockets_of pair))))
      (one_shape m n pair after (own_step Leave (kept_of m (sockets_of pair))) one s)
      (leaves_tallies receives links suspended w (kept_of m) o (sockets_of pair) l t))

  -- it hears what may be said
  pub heard_tally : (after : Option Endpoint) (x : Say) → OneEnd m n pair after → kept (sends pair) after ≡ their_step x (kept (sends pair) (get m pair)) → their_legal x (o (sockets_of pair)) ≡ true
      → Tallies receives links suspended w (kept_of m) o → Tallies receives links suspended w (kept_of n) (put o (sockets_of pair) (their_step x (o (sockets_of pair))))
  heard_tally after x one s l t =
      suspended_tally receives links suspended links suspended w (put (kept_of m) (sockets_of pair) (their_step x (kept_of m (sockets_of pair)))) (put o (sockets_of pair) (their_step x (o (sockets_of pair)))) (kept_of n) (put o (sockets_of pair) (their_step x (o (sockets_of pair))))
      (λ k z. z)
      (λ u r. (r, (one_shape m n pair after (their_step x (kept_of m (sockets_of pair))) one s u, refl)))
      (hears_tallies receives links suspended w (kept_of m) o (sockets_of pair) x l t)

  -- a CLS that may be sent, which the host may match at once
  pub closed_tally : (act : Effect Heard) → OneEnd m n pair (end_after (get m pair) act) → Closed (sends pair) pair (get m pair) act → their_legal Leave (o (sockets_of pair)) ≡ true
      → Tallies receives links suspended w (kept_of m) o → Tallies receives links suspended (w ++ all_says (made_by_hearing (answer act))) (kept_of n) (put o (sockets_of pair) (their_step Leave (o (sockets_of pair))))
  closed_tally act one (Known none s) l t =
      subst (λ (x : List Command). Tallies receives links suspended (w ++ all_says x) (kept_of n) (put o (sockets_of pair) (their_step Leave (o (sockets_of pair))))) (sym none)
      (subst (λ (x : List (Sockets × Say)). Tallies receives links suspended x (kept_of n) (put o (sockets_of pair) (their_step Leave (o (sockets_of pair))))) (sym (nil w))
      (heard_tally (end_after (get m pair) act) Leave one s l t))
    where
      nil : (x : List (Sockets × Say)) → x ++ [] ≡ x
      nil [] = refl
      nil (y ∷ ys) = ap (λ (zs : List (Sockets × Say)). y ∷ zs) (nil ys)
  closed_tally act one (Matched made k s) l t =
      subst (λ (x : List Command). Tallies receives links suspended (w ++ all_says x) (kept_of n) now) (sym made)
      (suspended_tally receives links suspended links suspended (w ++ (p, Leave) ∷ []) (put mid p (own_step Leave (mid p))) now (kept_of n) now
      (λ j z. z)
      (λ u r. (r, (one_shape m n pair (end_after (get m pair) act) (own_step Leave (their_step Leave (kept_of m p))) one s u ∙ both u (same u p) refl, refl)))
      (leaves_tallies receives links suspended w mid now p (subst (λ (x : Option Shape). legal Leave x ≡ true) (sym there) k) (hears_tallies receives links suspended w (kept_of m) o p Leave l t)))
    where
      p : Sockets
      p = sockets_of pair

      now : Sockets → Option Shape
      now = put o p (their_step Leave (o p))

      mid : Sockets → Option Shape
      mid = put (kept_of m) p (their_step Leave (kept_of m p))

      itself : (v : Sockets) → same v v ≡ true
      itself (a, b) = rw (eq-eqb a a refl, eq-eqb b b refl) refl

      there : mid p ≡ their_step Leave (kept_of m p)
      there = ap (λ (b : Bool). if b then their_step Leave (kept_of m p) else kept_of m p) (itself p)

      both : (u : Sockets) (b : Bool) → same u p ≡ b → (if b then own_step Leave (their_step Leave (kept_of m p)) else kept_of m u) ≡ (if b then own_step Leave (mid p) else mid u)
      both u true e = ap (own_step Leave) (sym there)
      both u false e = sym (ap (λ (b : Bool). if b then their_step Leave (kept_of m p) else kept_of m u) e)

-- ---- the link that is free is one that no receiving end has

pub link_lacks : (m : Ends) (k : ℕ) (u : Sockets) → any (uses_link k) m ≡ false → receives (pair_at u) ≡ true → Lacks k (kept_of m u)
link_lacks m k u a r e = go (get m (pair_at u)) (any-none (uses_link k) m a (pair_at u)) (sends (pair_at u)) (unsending (pair_at u) r) e
  where
    unsending : (q : Pair) → receives q ≡ true → sends q ≡ false
    unsending q z = grind arith

    go : (o : Option Endpoint) → passes (uses_link k) (pair_at u) o ≡ false → (s : Bool) → s ≡ false → number_of (kept s o) ≡ Some k → ⊥
    go None n s z x = cc x
    go (Some e) n s z x = by e.asked refl (subst (λ (b : Bool). number_of (kept b (Some e)) ≡ Some k) z x)
      where
        by : (b : Bool) → e.asked ≡ b → (if b then Some e.link else None) ≡ Some k → ⊥
        by false y x = cc x
        by true y x =
            let l : e.link ≡ k = cc x in
            let nay : false ≡ true = sym n ∙ ap (λ (b : Bool). b && e.asked && (e.link == k)) r ∙ ap (λ (b : Bool). b && (e.link == k)) y ∙ eq-eqb e.link k l in cc nay
