-- Meant for other crates too: they cite what is public here.
--
-- The work of all ends of a host: how a sum over the map changes where one end does.
use Rattle.std.proofs.Common.{◌≡◌, ℕ, suc, ◌+◌, Bool, true, false, cond, not, ◌&&◌, T, List, [], ◌∷◌, length, is_some, Option, Some, None, refl, sym, ap, ◌∙◌, arith}
use Rattle.std.specs.declared.cmp.Ordering.{Ordering}
use Rattle.std.specs.declared.cmp.Ordering.TheVariants.{Less, Equal, Greater}
use Rattle.std.specs.List.{sum_by}
use Rattle.std.specs.Ordering.{is_eq, eq_by_cmp}
use Rattle.std.specs.FinMap.{entries, entries_sorted, get, get-entries, get-remove, insert, entries-insert, remove, empty, len-empty, len-entries}
use Rattle.std.specs.FinMap.Entries.{by_order, find, where_key, is_sorted, find-where_key, is_sorted-where_key, same_entries, length-put, length_without}
use Rattle.std.specs.FinMap.Entries
use Rattle.std.proofs.lemmas.Cmp.{eq_by_cmp_equiv}
use Rattle.std.proofs.lemmas.List.Sums.{sum_by-cons}
use Rattle.std.proofs.lemmas.Map.Views.{tells_apart}
use Rattle.ncp_model.specs.declared.pair.Pair.{Pair}
use Rattle.ncp_model.specs.Pairs.{pair_cmp}
use Rattle.ncp_model.specs.Endpoint.{Endpoint, is_ended}
use Rattle.ncp_model.specs.Effect.{Effect, Stays, Becomes, end_after}
use Rattle.ncp_model.specs.Ends.{Ends, put, map_after, no_ends}
use Rattle.ncp_model.proofs.PairOrder.{pairs_exact, pairs_total}
use Rattle.ncp_proof_progress.specs.Work.{end_work, end_work_at, entry_work, ends_work}

abbrev Listed : Type 0
Listed = List (Pair × Endpoint)

-- two parts of an order
second : (a b : Bool) → T (a && b) → T b
second true b h = h
second false b h = absurd h

nothing-there : (n : ℕ) (pair : Pair) (o : Option Endpoint) → suc (suc n) ≡ cond (is_some o) (suc n) (suc n + 1) → end_work_at pair o ≡ 0
nothing-there n pair None h = refl
nothing-there n pair (Some e) h = absurd (omega (arith, h))

-- in a list in order

sum-put : (es : Listed) (k : Pair) (e : Endpoint) → T (is_sorted pair_cmp es) → sum_by entry_work (Entries.put pair_cmp k e es) + end_work_at k (find pair_cmp k es) ≡ sum_by entry_work es + end_work k e
sum-put [] k e h = let c : sum_by entry_work ((k, e) ∷ []) ≡ end_work k e + sum_by entry_work [] = sum_by-cons entry_work (k, e) [] in omega (arith, c)
sum-put (x ∷ es) k e h = go (pair_cmp k x.0) refl (length-put pair_cmp pairs_total k e (x ∷ es) h) (sum-put es k e (second _ _ h))
  where
    go : (r : Ordering) → pair_cmp k x.0 ≡ r
        → length (by_order r ((k, e) ∷ x ∷ es) ((x.0, e) ∷ es) (x ∷ Entries.put pair_cmp k e es)) ≡ cond (is_some (cond (is_eq r) (Some x.1) (find pair_cmp k es))) (suc (length es)) (suc (length es) + 1)
        → sum_by entry_work (Entries.put pair_cmp k e es) + end_work_at k (find pair_cmp k es) ≡ sum_by entry_work es + end_work k e
        → sum_by entry_work (by_order r ((k, e) ∷ x ∷ es) ((x.0, e) ∷ es) (x ∷ Entries.put pair_cmp k e es)) + end_work_at k (cond (is_eq r) (Some x.1) (find pair_cmp k es)) ≡ sum_by entry_work (x ∷ es) + end_work k e
    go Less p l rest = let z : end_work_at k (find pair_cmp k es) ≡ 0 = nothing-there (length es) k (find pair_cmp k es) l in rw (sum_by-cons entry_work (k, e) (x ∷ es), z) (omega arith)
    go Equal p l rest =
        let same : k ≡ x.0 = pairs_exact k x.0 p in
        rw (sum_by-cons entry_work (x.0, e) es, sum_by-cons entry_work x es, same) (omega arith)
    go Greater p l rest = rw (sum_by-cons entry_work x (Entries.put pair_cmp k e es), sum_by-cons entry_work x es) (omega (arith, rest))

abbrev without : Pair → Listed → Listed
without pair es = where_key pair_cmp (λ x. not (eq_by_cmp pair_cmp pair x)) es

sum-without : (es : Listed) (k : Pair) → T (is_sorted pair_cmp es) → sum_by entry_work (without k es) + end_work_at k (find pair_cmp k es) ≡ sum_by entry_work es
sum-without [] k h = refl
sum-without (x ∷ es) k h = go (eq_by_cmp pair_cmp k x.0) refl (length_without pair_cmp pairs_total k es (second _ _ h)) (length_without pair_cmp pairs_total k (x ∷ es) h) (sum-without es k (second _ _ h))
  where
    no-more : (o : Option Endpoint) (n m : ℕ) → cond (is_some o) 1 0 + n ≡ m → 1 + n ≡ suc m → end_work_at k o ≡ 0
    no-more None n m g h = refl
    no-more (Some e) n m g h = absurd (omega (arith, g, h))

    go : (t : Bool) → eq_by_cmp pair_cmp k x.0 ≡ t
        → cond (is_some (find pair_cmp k es)) 1 0 + length (without k es) ≡ length es
        → cond (is_some (cond t (Some x.1) (find pair_cmp k es))) 1 0 + length (cond (not t) (x ∷ without k es) (without k es)) ≡ suc (length es)
        → sum_by entry_work (without k es) + end_work_at k (find pair_cmp k es) ≡ sum_by entry_work es
        → sum_by entry_work (cond (not t) (x ∷ without k es) (without k es)) + end_work_at k (cond t (Some x.1) (find pair_cmp k es)) ≡ sum_by entry_work (x ∷ es)
    go true p l m rest =
        let same : k ≡ x.0 = tells_apart pairs_exact k x.0 p in
        let z : end_work_at k (find pair_cmp k es) ≡ 0 = no-more (find pair_cmp k es) (length (without k es)) (length es) l m in
        let w : end_work k x.1 ≡ end_work x.0 x.1 = ap (λ (q : Pair). end_work q x.1) same in
        let c : sum_by entry_work (x ∷ es) ≡ entry_work x + sum_by entry_work es = sum_by-cons entry_work x es in
        omega (arith, rest, z, w, c)
    go false p l m rest = rw (sum_by-cons entry_work x (without k es), sum_by-cons entry_work x es) (omega (arith, rest))

-- in the map

apart : (b c : Bool) (o : Option Endpoint) → b ≡ c → cond (not b) o None ≡ cond c None o
apart true true o e = refl
apart false false o e = refl
apart true false o e = absurd (cc e)
apart false true o e = absurd (cc e)

mirrored : (k q : Pair) → eq_by_cmp pair_cmp k q ≡ eq_by_cmp pair_cmp q k
mirrored k q = (eq_by_cmp_equiv pairs_total).symm k q

entries-remove : (m : Ends) (k : Pair) → entries (remove m k) ≡ without k (entries m)
entries-remove m k =
    let alike : (q x : Pair) → pair_cmp q x ≡ Equal → not (eq_by_cmp pair_cmp k x) ≡ not (eq_by_cmp pair_cmp k q) = λ q x e. ap (λ (y : Pair). not (eq_by_cmp pair_cmp k y)) (sym (pairs_exact q x e)) in
    same_entries pair_cmp pairs_total pairs_exact (entries (remove m k)) (without k (entries m)) (entries_sorted (remove m k)) (is_sorted-where_key pair_cmp (λ x. not (eq_by_cmp pair_cmp k x)) (entries m) (entries_sorted m))
    (λ q. sym (get-entries (remove m k) q) ∙ (get-remove pairs_total m k q ∙ sym (find-where_key pair_cmp (λ x. not (eq_by_cmp pair_cmp k x)) q (alike q) (entries m) ∙ (apart (eq_by_cmp pair_cmp k q) (eq_by_cmp pair_cmp q k) (find pair_cmp q (entries m)) (mirrored k q) ∙ ap (cond (eq_by_cmp pair_cmp q k) None) (sym (get-entries m q))))))

pub ends-none : ends_work no_ends ≡ 0
unfolding ends_work
ends-none = go (entries (empty {X = Endpoint} {R = pair_cmp})) (sym (len-entries (empty {X = Endpoint} {R = pair_cmp})) ∙ len-empty pair_cmp Endpoint)
  where
    go : (es : Listed) → length es ≡ 0 → sum_by entry_work es ≡ 0
    go [] e = refl
    go (x ∷ es) e = absurd (omega (arith, e))

-- one end is another, or gone
pub ends-put : (m : Ends) (k : Pair) (o : Option Endpoint) → ends_work (put m k o) + end_work_at k (get m k) ≡ ends_work m + end_work_at k o
unfolding ends_work
ends-put m k None = rw (entries-remove m k, get-entries m k) (let h = sum-without (entries m) k (entries_sorted m) in omega (arith, h))
ends-put m k (Some e) = rw (entries-insert pairs_total m k e, get-entries m k) (sum-put (entries m) k e (entries_sorted m))

-- after an act there
pub ends-after : {A : Type 0} (m : Ends) (k : Pair) (act : Effect A) → ends_work (map_after m k act) + end_work_at k (get m k) ≡ ends_work m + end_work_at k (end_after (get m k) act)
ends-after m k (Stays a) = refl
ends-after m k (Becomes e a) = go (is_ended e)
  where
    go : (b : Bool) → ends_work (cond b (remove m k) (insert m k e)) + end_work_at k (get m k) ≡ ends_work m + end_work_at k (cond b None (Some e))
    go true = ends-put m k None
    go false = ends-put m k (Some e)
