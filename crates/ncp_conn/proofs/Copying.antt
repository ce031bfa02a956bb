-- A table is copied from its last entry on: so the entries that are copied are a table too, and the next one fits
-- among them.
use Rattle.std.proofs.Common.{◌≡◌, ℕ, ◌+◌, ◌<◌, ◌≤◌, Bool, true, false, not, nat_lt, List, [], ◌∷◌, ◌++◌, map, Option, Some, None, refl, sym, ap, ◌∙◌, subst, zero-add, arith}
use Rattle.std.specs.List.{count_by}
use Rattle.std.specs.FinMap as finite
use Rattle.std.specs.FinMap.{from_entries, get-from_entries, insert}
use Rattle.std.proofs.lemmas.List.{append-nil}
use Rattle.slab.specs.Slab.{entries_from}
use Rattle.ncp_model.specs.declared.pair.Pair.{Pair}
use Rattle.ncp_model.specs.Pairs.{pair_cmp}
use Rattle.ncp_model.specs.Endpoint.{Endpoint}
use Rattle.ncp_model.specs.Ends.{Ends, count, has_asked, is_by_peer, hears_link, uses_link, no_ends}
use Rattle.ncp_model.proofs.PairOrder.{pairs_total}
use Rattle.ncp_conn.specs.Asking.{Enters}
use Rattle.ncp_conn.specs.Entries.{AreEntries, IsTable}
use Rattle.ncp_conn.proofs.Slabs.{vals}
use Rattle.ncp_conn.proofs.Counts.{one, count_cons}
use Rattle.ncp_conn.proofs.Tables.{counted}

abbrev Keyed : Type 0
Keyed = List (ℕ × (Pair × Endpoint))

-- the entries without their keys
abbrev bare : Keyed → List (Pair × Endpoint)
bare es = map (λ e. e.1) es

bare_all : (n : ℕ) (slots : List (Option (Pair × Endpoint))) → bare (entries_from n slots) ≡ vals slots
bare_all n [] = refl
bare_all n (None ∷ slots) = bare_all (n + 1) slots
bare_all n (Some x ∷ slots) = ap (λ (xs : List (Pair × Endpoint)). x ∷ xs) (bare_all (n + 1) slots)

-- those that are left and those that are copied are the entries of a table
pub record Copied (whole : Ends) (left : Keyed) (m : Ends) : Type 0 where
  pub done : List (Pair × Endpoint)
  pub capacity : ℕ
  pub table : IsTable (bare left ++ done) capacity
  pub all : from_entries (bare left ++ done) ≡ whole
  pub made : m ≡ from_entries done

pub copied_none : (slots : List (Option (Pair × Endpoint))) (capacity : ℕ) (whole : Ends) (left : Keyed) (m : Ends) → IsTable (vals slots) capacity → from_entries (vals slots) ≡ whole → left ≡ entries_from 0 slots → m ≡ no_ends → Copied whole left m
copied_none slots capacity whole left m table all is none = record {
  done = [];
  capacity = capacity;
  table = subst (λ (xs : List (Pair × Endpoint)). IsTable xs capacity) (sym same) table;
  all = ap (from_entries {R = pair_cmp}) same ∙ all;
  made = none;
}
  where
    same : bare left ++ [] ≡ vals slots
    same = append-nil (bare left) ∙ ap bare is ∙ bare_all 0 slots

moved : (rest : Keyed) (key : ℕ) (p : Pair × Endpoint) (done : List (Pair × Endpoint)) → bare rest ++ p ∷ done ≡ bare (rest ++ (key, p) ∷ []) ++ done
moved [] key p done = refl
moved (x ∷ rest) key p done = ap (λ (xs : List (Pair × Endpoint)). x.1 ∷ xs) (moved rest key p done)

are_after : (xs ys : List (Pair × Endpoint)) → AreEntries (xs ++ ys) → AreEntries ys
are_after [] ys are = are
are_after (x ∷ xs) ys are = are_after xs ys are.2

count_following : (t : Pair × Endpoint → Bool) (xs ys : List (Pair × Endpoint)) → count_by t (xs ++ ys) ≡ count_by t xs + count_by t ys
count_following t [] ys = sym (zero-add (count_by t ys))
count_following t (x ∷ xs) ys = let h = count_following t xs ys in rw (count_cons t x (xs ++ ys), count_cons t x xs) (omega (arith, h))

module _ (whole : Ends) (left rest : Keyed) (key : ℕ) (p f : Pair × Endpoint) (m : Ends) (last : left ≡ rest ++ (key, p) ∷ []) (same : f ≡ p) (c : Copied whole left m) where
  here : bare rest ++ p ∷ c.done ≡ bare left ++ c.done
  here = moved rest key p c.done ∙ ap (λ (es : Keyed). bare es ++ c.done) (sym last)

  table : IsTable (bare rest ++ p ∷ c.done) c.capacity
  table = subst (λ (xs : List (Pair × Endpoint)). IsTable xs c.capacity) (sym here) c.table

  pub copied_one : (n : Ends) → n ≡ insert m f.0 f.1 → Copied whole rest n
  copied_one n is = record {
    done = p ∷ c.done;
    capacity = c.capacity;
    table = table;
    all = ap (from_entries {R = pair_cmp}) here ∙ c.all;
    made = is ∙ ap (λ (x : Pair × Endpoint). insert m x.0 x.1) same ∙ ap (λ (x : Ends). insert x p.0 p.1) c.made;
  }

  are : AreEntries (p ∷ c.done)
  are = are_after (bare rest) (p ∷ c.done) table.are

  sum : (test : Pair × Endpoint → Bool) → count_by test (bare rest) + (one (test p) + count test m) ≡ count_by test (bare rest ++ p ∷ c.done)
  sum test =
      ap (λ (k : ℕ). count_by test (bare rest) + (one (test p) + k)) (counted test c.done m (sym c.made) are.2)
      ∙ ap (λ (k : ℕ). count_by test (bare rest) + k) (sym (count_cons test p c.done))
      ∙ sym (count_following test (bare rest) (p ∷ c.done))

  alone : (test : Pair × Endpoint → Bool) → test p ≡ true → count_by test (bare rest ++ p ∷ c.done) ≤ 1 → nat_lt 0 (count test m) ≡ false
  alone test h few = let o : one (test p) ≡ 1 = ap one h in let s = sum test in let z : count test m ≡ 0 = omega (arith, o, s, few) in ap (nat_lt 0) z

  own : p.1.asked ≡ true → count has_asked m < 64
  own a =
      let o : one p.1.asked ≡ 1 = ap one a in
      let s : count_by has_asked (bare rest) + (one p.1.asked + count has_asked m) ≡ count_by has_asked (bare rest ++ p ∷ c.done) = sum has_asked in
      let few : count_by has_asked (bare rest ++ p ∷ c.done) ≤ 64 = table.own in
      omega (arith, o, s, few)

  by_peer : p.1.asked ≡ false → count is_by_peer m < 64
  by_peer a =
      let o : one (not p.1.asked) ≡ 1 = ap (λ (b : Bool). one (not b)) a in
      let s : count_by is_by_peer (bare rest) + (one (not p.1.asked) + count is_by_peer m) ≡ count_by is_by_peer (bare rest ++ p ∷ c.done) = sum is_by_peer in
      let few : count_by is_by_peer (bare rest ++ p ∷ c.done) ≤ 64 = table.by_peer in
      omega (arith, o, s, few)

  fits : Enters m p
  fits = record {
    none = ap (λ (x : Ends). finite.get x p.0) c.made ∙ get-from_entries pairs_total c.done p.0 ∙ are.0;
    over = are.1;
    own = own;
    by_peer = by_peer;
    hears = λ on h. alone (hears_link on) h (table.hears on);
    uses = λ on h. alone (uses_link on) h (table.uses on);
  }

  pub copied_enters : Enters m f
  copied_enters = subst (Enters m) (sym same) fits

pub copied_all : (whole : Ends) (left : Keyed) (m : Ends) → left ≡ [] → Copied whole left m → m ≡ whole
copied_all whole left m none c = c.made ∙ ap (from_entries {R = pair_cmp}) (sym (ap (λ (es : Keyed). bare es ++ c.done) none)) ∙ c.all
