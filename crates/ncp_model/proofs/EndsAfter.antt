-- The ends after an act.
use Rattle.std.proofs.Common.{◌≡◌, Bool, true, false, cond, if◌then◌else◌, Option, None, Some, refl, sym, ap, ◌∙◌}
use Rattle.std.specs.FinMap.{get, insert, remove, get-insert, get-remove}
use Rattle.std.specs.Ordering.{eq_by_cmp}
use Rattle.std.proofs.lemmas.Cmp.{eq_by_cmp_equiv}
use Rattle.std.proofs.lemmas.Map.Views.{tells_apart}
use Rattle.ncp_model.specs.declared.pair.Pair.{Pair}
use Rattle.ncp_model.specs.Pairs.{pair_cmp}
use Rattle.ncp_model.specs.Endpoint.{Endpoint, is_ended}
use Rattle.ncp_model.specs.Effect.{Effect, Stays, Becomes, end_after}
use Rattle.ncp_model.specs.Ends.{Ends, put, map_after}
use Rattle.ncp_model.proofs.PairOrder.{pairs_exact, pairs_total}

same : (p : Pair) → eq_by_cmp pair_cmp p p ≡ true
same p = (eq_by_cmp_equiv pairs_total).refl p

apart : (q p : Pair) → ((q ≡ p) → ⊥) → eq_by_cmp pair_cmp q p ≡ false
apart q p n = go (eq_by_cmp pair_cmp q p) refl
  where
    go : (b : Bool) → eq_by_cmp pair_cmp q p ≡ b → eq_by_cmp pair_cmp q p ≡ false
    go true e = absurd (n (tells_apart pairs_exact q p e))
    go false e = e

through : (b : Bool) (m n : Ends) (p : Pair) (o u : Option Endpoint) → get m p ≡ o → get n p ≡ u → get (if b then m else n) p ≡ (if b then o else u)
through true m n p o u e f = e
through false m n p o u e f = f

pub after-at : {A : Type 0} → (m : Ends) (p : Pair) (act : Effect A) → get (map_after m p act) p ≡ end_after (get m p) act
after-at m p (Stays a) = refl
after-at m p (Becomes e a) =
    through (is_ended e) (remove m p) (insert m p e) p None (Some e)
    (get-remove pairs_total m p p ∙ ap (λ b. cond b None (get m p)) (same p))
    (get-insert pairs_total m p e p ∙ ap (λ b. cond b (Some e) (get m p)) (same p))

both : (b : Bool) (m n : Ends) (p : Pair) (o : Option Endpoint) → get m p ≡ o → get n p ≡ o → get (if b then m else n) p ≡ o
both true m n p o e f = e
both false m n p o e f = f

pub after-elsewhere : {A : Type 0} → (m : Ends) (p q : Pair) (act : Effect A) → ((q ≡ p) → ⊥) → get (map_after m p act) q ≡ get m q
after-elsewhere m p q (Stays a) n = refl
after-elsewhere m p q (Becomes e a) n =
    both (is_ended e) (remove m p) (insert m p e) q (get m q)
    (get-remove pairs_total m p q ∙ ap (λ b. cond b None (get m q)) (apart q p n))
    (get-insert pairs_total m p e q ∙ ap (λ b. cond b (Some e) (get m q)) (apart q p n))

still : (m : Ends) (p q : Pair) (o : Option Endpoint) → get m p ≡ o → (b : Bool) → eq_by_cmp pair_cmp q p ≡ b → get m q ≡ get (put m p o) q
still m p q None e true h = ap (get m) (tells_apart pairs_exact q p h) ∙ e ∙ sym (get-remove pairs_total m p q ∙ ap (λ b. cond b None (get m q)) h)
still m p q None e false h = sym (get-remove pairs_total m p q ∙ ap (λ b. cond b None (get m q)) h)
still m p q (Some x) e true h = ap (get m) (tells_apart pairs_exact q p h) ∙ e ∙ sym (get-insert pairs_total m p x q ∙ ap (λ b. cond b (Some x) (get m q)) h)
still m p q (Some x) e false h = sym (get-insert pairs_total m p x q ∙ ap (λ b. cond b (Some x) (get m q)) h)

through-put : (b : Bool) (m : Ends) (p q : Pair) (e : Endpoint) → get (if b then remove m p else insert m p e) q ≡ get (put m p (if b then None else Some e)) q
through-put true m p q e = refl
through-put false m p q e = refl

pub after-put : {A : Type 0} → (m : Ends) (p q : Pair) (act : Effect A) → get (map_after m p act) q ≡ get (put m p (end_after (get m p) act)) q
after-put m p q (Stays a) = still m p q (get m p) refl (eq_by_cmp pair_cmp q p) refl
after-put m p q (Becomes e a) = through-put (is_ended e) m p q e
