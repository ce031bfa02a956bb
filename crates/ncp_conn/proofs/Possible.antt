-- Each connection of a table is possible.
use Rattle.std.proofs.Common.{◌≡◌, ℕ, zero, suc, ◌+◌, ◌<◌, false, List, [], ◌∷◌, Option, Some, None, refl, sym, ap, ◌∙◌, subst, arith, get_or}
use Rattle.std.specs.Prelude.{slice_get, length}
use Rattle.std.specs.List.{All}
use Rattle.std.specs.FinMap as map
use Rattle.std.specs.FinMap.{find, from_entries, entries_sorted, get-entries}
use Rattle.slab.specs.Slab.{entries_from, values}
use Rattle.ncp_model.specs.declared.pair.Pair.{Pair}
use Rattle.ncp_model.specs.Pairs.{pair_cmp}
use Rattle.ncp_model.specs.Endpoint.{Endpoint, is_ended}
use Rattle.ncp_model.specs.Ends.{Ends}
use Rattle.ncp_conn.specs.declared.entries.Entries.{Entries}
use Rattle.ncp_conn.specs.Entries.{IsKept}
use Rattle.ncp_conn.specs.Restoring.{IsPossible}
use Rattle.ncp_conn.proofs.Slabs.{vals}
use Rattle.ncp_conn.proofs.Finding.{get_is, not_over}
use Rattle.ncp_conn.proofs.Listing.{found_sorted, find_at}

-- an entry, beside its key, is possible unless its endpoint is over
abbrev pub IsFit : ℕ × (Pair × Endpoint) → Type 0
IsFit e = is_ended e.1.1 ≡ false → IsPossible e.1

module _ {A : Type 0} (P : A → Type 0) where
  pub all_cons : (x : A) (xs : List A) → P x → All P xs → (k : ℕ) (d : A) → k < length (x ∷ xs) → P (get_or (x ∷ xs) k d)
  all_cons x xs p all zero d l = p
  all_cons x xs p all (suc k) d l = all k d (omega (arith, l))

  all_tail : (x : A) (xs : List A) → All P (x ∷ xs) → All P xs
  all_tail x xs all = λ k d l. all (suc k) d (omega (arith, l))

  at_all : (xs : List A) (i : ℕ) (x : A) → All P xs → slice_get xs i ≡ Some x → P x
  at_all [] i x all at = absurd (cc)
  at_all (y ∷ xs) zero x all at = let same : y ≡ x = cc in subst P same (all 0 x (omega arith))
  at_all (y ∷ xs) (suc i) x all at = at_all xs i x (all_tail y xs all) at

  pub all_values : (n : ℕ) (slots : List (Option A)) → All (λ (e : ℕ × A). P e.1) (entries_from n slots) → All P (vals slots)
  all_values n [] all = λ k d l. absurd (omega (arith, l))
  all_values n (None ∷ slots) all = all_values (n + 1) slots all
  all_values n (Some x ∷ slots) all =
      all_cons x (vals slots) (all 0 (n, x) (omega arith)) (all_values (n + 1) slots (λ k d l. all (suc k) d (omega (arith, l))))

got_at : {A : Type 0} (xs : List A) (k : ℕ) (d : A) → k < length xs → slice_get xs k ≡ Some (get_or xs k d)
got_at [] k d l = absurd (omega (arith, l))
got_at (x ∷ xs) zero d l = refl
got_at (x ∷ xs) (suc k) d l = got_at xs k d (omega (arith, l))

module _ {S : Type 0} (e : Entries S) (m : Ends) (v : from_entries (values e.slab) ≡ m) (t : IsKept e) where
  pub all_possible : All (λ (p : Pair × Endpoint). is_ended p.1 ≡ false → IsPossible p) (values e.slab) → All IsPossible (map.entries m)
  all_possible all k d l =
      let p : Pair × Endpoint = get_or (map.entries m) k d in
      let at : slice_get (map.entries m) k ≡ Some p = got_at (map.entries m) k d l in
      let in_list : find pair_cmp p.0 (values e.slab) ≡ Some p.1 = sym (get_is (values e.slab) p.0) ∙ ap (λ (n : Ends). map.get n p.0) v ∙ get-entries m p.0 ∙ found_sorted (map.entries m) k p (entries_sorted m) at in
      let there = find_at (values e.slab) p.0 p.1 in_list in
      let over : is_ended p.1 ≡ false = not_over (values e.slab) there.0 p.0 p.1 t.table.are there.1 in
      at_all (λ (q : Pair × Endpoint). is_ended q.1 ≡ false → IsPossible q) (values e.slab) there.0 p all there.1 over
