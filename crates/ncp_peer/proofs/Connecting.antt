-- Connections by their places, and how many there are.
use Rattle.std.proofs.Common.{◌≡◌, ◌≤◌, ℕ, ◌+◌, zero, suc, Bool, true, false, not, List, [], ◌∷◌, length, slice_get, Option, None, Some, refl, sym, ap, ◌∙◌, arith}
use Rattle.std.specs.List.{count_by, zip}
use Rattle.std.specs.FinMap.{entries, get, get-entries, entries_sorted}
use Rattle.std.proofs.lemmas.Slice.Zip.{length-zip}
use Rattle.ncp_model.specs.declared.pair.Pair.{Pair}
use Rattle.ncp_model.specs.Endpoint.{Endpoint, or_new}
use Rattle.ncp_model.specs.Ends.{Ends, count, has_asked, is_by_peer}
use Rattle.ncp_conn.specs.declared.record.Record.{Record}
use Rattle.ncp_conn.specs.Records.{record_of}
use Rattle.ncp_conn.specs.Listing.{with_record, connection_in}
use Rattle.ncp_conn.proofs.Counts.{one, count_cons}
use Rattle.ncp_conn.proofs.Listing.{found_sorted}

-- each has its own request, or is there by the peer's
all_counted : (es : List (Pair × Endpoint)) → length es ≡ count_by has_asked es + count_by is_by_peer es
all_counted [] = refl
all_counted (e ∷ es) =
    let own = count_cons has_asked e es in
    let by_peer = count_cons is_by_peer e es in
    let rest = all_counted es in
    let either : one (has_asked e) + one (is_by_peer e) ≡ 1 = go e.1.asked in
    omega (arith, own, by_peer, rest, either)
  where
    go : (b : Bool) → one b + one (not b) ≡ 1
    go true = refl
    go false = refl

pub no_more : (m : Ends) (n : ℕ) → 128 ≤ n → count has_asked m ≤ 64 → count is_by_peer m ≤ 64 → length (entries m) ≤ n
no_more m n l own by_peer = let all = all_counted (entries m) in omega (arith, l, own, by_peer, all)

-- what stands at a place
pub stands : (m : Ends) (place : ℕ) (pair : Pair) (r : Record) → connection_in place m ≡ Some (pair, r) → slice_get (entries m) place ≡ Some (pair, or_new (get m pair))
stands m place pair r h = go (slice_get (entries m) place) refl h
  where
    go : (o : Option (Pair × Endpoint)) → slice_get (entries m) place ≡ o → with_record o ≡ Some (pair, r) → slice_get (entries m) place ≡ Some (pair, or_new (get m pair))
    go None at is = absurd (cc)
    go (Some x) at is =
        let both : (x.0, record_of x.0 x.1) ≡ (pair, r) = cc in
        let key : x.0 ≡ pair = ap (λ (y : Pair × Record). y.0) both in
        let found : get m x.0 ≡ Some x.1 = get-entries m x.0 ∙ found_sorted (entries m) place x (entries_sorted m) at in
        let there : x.1 ≡ or_new (get m pair) = sym (ap or_new found) ∙ ap (λ (k : Pair). or_new (get m k)) key in
        at ∙ (λ i. Some (key i, there i))

pub stands_none : (m : Ends) (place : ℕ) → connection_in place m ≡ None → slice_get (entries m) place ≡ None
stands_none m place h = go (slice_get (entries m) place) h
  where
    go : (o : Option (Pair × Endpoint)) → with_record o ≡ None → o ≡ None
    go None is = refl
    go (Some x) is = absurd (cc)

-- two lists beside each other
pub beside : {A B : Type 0} (xs : List A) (ys : List B) (i : ℕ) (x : A) (y : B) → slice_get xs i ≡ Some x → slice_get ys i ≡ Some y → slice_get (zip xs ys) i ≡ Some (x, y)
beside [] ys i x y at there = absurd (cc)
beside (a ∷ xs) [] i x y at there = absurd (cc)
beside (a ∷ xs) (b ∷ ys) zero x y at there = let first : a ≡ x = cc in let second : b ≡ y = cc in λ i. Some (first i, second i)
beside (a ∷ xs) (b ∷ ys) (suc i) x y at there = beside xs ys i x y at there

pub no_more_beside : {A B : Type 0} (xs : List A) (ys : List B) (i : ℕ) → length xs ≤ i → length (zip xs ys) ≤ i
no_more_beside xs ys i l = let e = length-zip xs ys in omega (arith, l, e)
