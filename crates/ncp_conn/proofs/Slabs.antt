-- The values of slots in a list, by rising key, and what changes there where one slot changes.
use Rattle.std.proofs.Common.{◌≡◌, ◌≢◌, ℕ, zero, suc, List, [], ◌∷◌, Option, Some, None, refl, sym, ap, ◌∙◌, arith, get_or}
use Rattle.std.specs.Prelude.{slice_get, slice_set}
use Rattle.std.specs.List.{remove, filter_map}

-- the values, and how many lie under lower keys
abbrev pub vals : {A : Type 0} → List (Option A) → List A
vals slots = filter_map (λ slot. slot) slots

abbrev pub below : {A : Type 0} → List (Option A) → ℕ → ℕ
below [] key = 0
below (x ∷ slots) zero = 0
below (None ∷ slots) (suc key) = below slots key
below (Some x ∷ slots) (suc key) = suc (below slots key)

module _ {A : Type 0} where
  pub vals_same : (a b : List (Option A)) → ((k : ℕ) → get_or a k None ≡ get_or b k None) → vals a ≡ vals b
  vals_same [] [] h = refl
  vals_same [] (None ∷ b) h = vals_same [] b (λ k. h (suc k))
  vals_same [] (Some x ∷ b) h = let g = h 0 in absurd (cc)
  vals_same (None ∷ a) [] h = vals_same a [] (λ k. h (suc k))
  vals_same (None ∷ a) (None ∷ b) h = vals_same a b (λ k. h (suc k))
  vals_same (None ∷ a) (Some x ∷ b) h = let g = h 0 in absurd (cc)
  vals_same (Some x ∷ a) [] h = let g = h 0 in absurd (cc)
  vals_same (Some x ∷ a) (None ∷ b) h = let g = h 0 in absurd (cc)
  vals_same (Some x ∷ a) (Some y ∷ b) h =
      let g = h 0 in
      let same : x ≡ y = cc in
      let rest : vals a ≡ vals b = vals_same a b (λ k. h (suc k)) in
      cc

  -- the value under a key is in the list
  pub vals_at : (a : List (Option A)) (key : ℕ) (x : A) → get_or a key None ≡ Some x → slice_get (vals a) (below a key) ≡ Some x
  vals_at [] key x h = absurd (cc)
  vals_at (None ∷ a) zero x h = absurd (cc)
  vals_at (Some y ∷ a) zero x h = h
  vals_at (None ∷ a) (suc key) x h = vals_at a key x h
  vals_at (Some y ∷ a) (suc key) x h = vals_at a key x h

  -- another value under the key
  pub vals_set : (a : List (Option A)) (key : ℕ) (x y : A) → get_or a key None ≡ Some x → vals (slice_set a key (Some y)) ≡ slice_set (vals a) (below a key) y
  vals_set [] key x y h = absurd (cc)
  vals_set (None ∷ a) zero x y h = absurd (cc)
  vals_set (Some z ∷ a) zero x y h = refl
  vals_set (None ∷ a) (suc key) x y h = vals_set a key x y h
  vals_set (Some z ∷ a) (suc key) x y h = ap (λ zs. z ∷ zs) (vals_set a key x y h)

  pub below_set : (a : List (Option A)) (key : ℕ) (x y : A) → get_or a key None ≡ Some x → below (slice_set a key (Some y)) key ≡ below a key
  below_set [] key x y h = absurd (cc)
  below_set (None ∷ a) zero x y h = absurd (cc)
  below_set (Some z ∷ a) zero x y h = refl
  below_set (None ∷ a) (suc key) x y h = below_set a key x y h
  below_set (Some z ∷ a) (suc key) x y h = ap suc (below_set a key x y h)

  pub get_set : (a : List (Option A)) (key : ℕ) (x y : A) → get_or a key None ≡ Some x → get_or (slice_set a key (Some y)) key None ≡ Some y
  get_set [] key x y h = absurd (cc)
  get_set (z ∷ a) zero x y h = refl
  get_set (z ∷ a) (suc key) x y h = get_set a key x y h

  pub get_set_other : (a : List (Option A)) (key other : ℕ) (y : Option A) → other ≢ key → get_or (slice_set a key y) other None ≡ get_or a other None
  get_set_other [] key other y h = refl
  get_set_other (z ∷ a) zero zero y h = absurd (h refl)
  get_set_other (z ∷ a) zero (suc other) y h = refl
  get_set_other (z ∷ a) (suc key) zero y h = refl
  get_set_other (z ∷ a) (suc key) (suc other) y h = get_set_other a key other y (λ e. h (ap suc e))

  -- nothing under the key, and all others the same
  pub vals_without : (a b : List (Option A)) (key : ℕ) (x : A) → get_or a key None ≡ Some x → get_or b key None ≡ None → ((other : ℕ) → other ≢ key → get_or b other None ≡ get_or a other None) → vals b ≡ remove (vals a) (below a key)
  vals_without [] b key x h g same = absurd (cc)
  vals_without (None ∷ a) b zero x h g same = absurd (cc)
  vals_without (Some y ∷ a) [] zero x h g same = vals_same [] a (λ k. same (suc k) (λ e. absurd (omega (arith, e))))
  vals_without (Some y ∷ a) (None ∷ b) zero x h g same = vals_same b a (λ k. same (suc k) (λ e. absurd (omega (arith, e))))
  vals_without (Some y ∷ a) (Some z ∷ b) zero x h g same = absurd (cc)
  vals_without (None ∷ a) [] (suc key) x h g same = vals_without a [] key x h g (λ k e. same (suc k) (λ d. e (omega (arith, d))))
  vals_without (None ∷ a) (None ∷ b) (suc key) x h g same = vals_without a b key x h g (λ k e. same (suc k) (λ d. e (omega (arith, d))))
  vals_without (None ∷ a) (Some z ∷ b) (suc key) x h g same = let d = same 0 (λ e. absurd (omega (arith, e))) in absurd (cc)
  vals_without (Some y ∷ a) [] (suc key) x h g same = let d = same 0 (λ e. absurd (omega (arith, e))) in absurd (cc)
  vals_without (Some y ∷ a) (None ∷ b) (suc key) x h g same = let d = same 0 (λ e. absurd (omega (arith, e))) in absurd (cc)
  vals_without (Some y ∷ a) (Some z ∷ b) (suc key) x h g same =
      let d = same 0 (λ e. absurd (omega (arith, e))) in
      let is : z ≡ y = cc in
      let rest : vals b ≡ remove (vals a) (below a key) = vals_without a b key x h g (λ k e. same (suc k) (λ d. e (omega (arith, d)))) in
      cc

-- what is read twice is one
pub one_value : {A : Type 0} (o : Option A) (x y : A) → o ≡ Some x → o ≡ Some y → x ≡ y
one_value o x y h g = let same : Some x ≡ Some y = sym h ∙ g in cc
