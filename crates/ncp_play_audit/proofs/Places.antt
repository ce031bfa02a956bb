-- The places of all pairs of hosts, one after the other.
use Rattle.std.proofs.Common.{◌≡◌, ◌<◌, ◌≤◌, ◌+◌, ℕ, Bool, true, false, List, [], ◌∷◌, ◌++◌, take, drop, length, get_or, refl, sym, ap, ◌∙◌, subst, arith}
use Rattle.std.specs.List.{list_all, range_with_len}
use Rattle.std.proofs.Math.ListN.{drop_of_length-le}
use Rattle.std.proofs.lemmas.List.{take-append-drop, take_more, append-nil}
use Rattle.std.proofs.lemmas.List.Folds.{list_all_at, list_all_more}
use Rattle.std.proofs.lemmas.List.FromFn.{length-range_with_len, get_or-range_with_len}
use Rattle.ncp_monitor.specs.declared.views.TheConstants.{VIEWS}
use Rattle.ncp_play_audit.specs.CoverageLines.{all_places}

module _ (n : ℕ) where
  inside : (i : ℕ) → i < n → i < length (range_with_len 0 n)
  inside i l = let e : length (range_with_len 0 n) ≡ n = length-range_with_len 0 n in omega (arith, e, l)

  item : (i : ℕ) → i < n → get_or (range_with_len 0 n) i 0 ≡ i
  item i l = get_or-range_with_len 0 n i 0 l ∙ (let e : 0 + i ≡ i = omega arith in e)

  one_more : (i : ℕ) → i < n → take (i + 1) (range_with_len 0 n) ≡ take i (range_with_len 0 n) ++ i ∷ []
  one_more i l = take_more (range_with_len 0 n) i 0 (inside i l) ∙ ap (λ (k : ℕ). take i (range_with_len 0 n) ++ k ∷ []) (item i l)

  no_more : (i : ℕ) → n ≤ i → drop i (range_with_len 0 n) ≡ []
  no_more i l = drop_of_length-le (range_with_len 0 n) (let e : length (range_with_len 0 n) ≡ n = length-range_with_len 0 n in omega (arith, e, l))

  all_more : (p : ℕ → Bool) (i : ℕ) → i < n → list_all p (take i (range_with_len 0 n)) ≡ true → p i ≡ true → list_all p (take (i + 1) (range_with_len 0 n)) ≡ true
  all_more p i l h e =
      let one : p (get_or (range_with_len 0 n) i 0) ≡ true = ap p (item i l) ∙ e in
      let more = list_all_more p (range_with_len 0 n) i 0 (inside i l) in
      rw (h, one) at more

  not_all : (p : ℕ → Bool) (i : ℕ) → i < n → p i ≡ false → list_all p (range_with_len 0 n) ≡ false
  not_all p i l e = list_all_at p (range_with_len 0 n) i 0 (inside i l) (ap p (item i l) ∙ e)

  all_of : (p : ℕ → Bool) (i : ℕ) → n ≤ i → list_all p (take i (range_with_len 0 n)) ≡ true → list_all p (range_with_len 0 n) ≡ true
  all_of p i l h =
      let xs = range_with_len 0 n in
      let whole : take i xs ≡ xs = sym (append-nil (take i xs)) ∙ ap (λ (ys : List ℕ). take i xs ++ ys) (sym (no_more i l)) ∙ take-append-drop i xs in
      subst (λ (ys : List ℕ). list_all p ys ≡ true) whole h

all_are : all_places ≡ range_with_len 0 VIEWS
unfolding all_places
all_are = refl

pub place_more : (i : ℕ) → i < VIEWS → take (i + 1) all_places ≡ take i all_places ++ i ∷ []
place_more i l = subst (λ (xs : List ℕ). take (i + 1) xs ≡ take i xs ++ i ∷ []) (sym all_are) (one_more VIEWS i l)

pub no_place : (i : ℕ) → VIEWS ≤ i → drop i all_places ≡ []
no_place i l = subst (λ (xs : List ℕ). drop i xs ≡ []) (sym all_are) (no_more VIEWS i l)

pub places_more : (p : ℕ → Bool) (i : ℕ) → i < VIEWS → list_all p (take i all_places) ≡ true → p i ≡ true → list_all p (take (i + 1) all_places) ≡ true
places_more p i l h e =
    let before = subst (λ (xs : List ℕ). list_all p (take i xs) ≡ true) all_are h in
    subst (λ (xs : List ℕ). list_all p (take (i + 1) xs) ≡ true) (sym all_are) (all_more VIEWS p i l before e)

pub not_all_places : (p : ℕ → Bool) (i : ℕ) → i < VIEWS → p i ≡ false → list_all p all_places ≡ false
not_all_places p i l e = subst (λ (xs : List ℕ). list_all p xs ≡ false) (sym all_are) (not_all VIEWS p i l e)

pub places_all : (p : ℕ → Bool) (i : ℕ) → VIEWS ≤ i → list_all p (take i all_places) ≡ true → list_all p all_places ≡ true
places_all p i l h =
    let before = subst (λ (xs : List ℕ). list_all p (take i xs) ≡ true) all_are h in
    subst (λ (xs : List ℕ). list_all p xs ≡ true) (sym all_are) (all_of VIEWS p i l before)
