-- The first item of a list that passes a test, if at most one passes, after the item at an index is
-- replaced or removed.
use Rattle.std.proofs.Common.{◌≡◌, ◌<◌, ℕ, zero, suc, Bool, true, false, if◌then◌else◌, List, [], ◌∷◌, length, get_or, Option, None, Some, refl, sym, ap, ◌∙◌, arith}
use Rattle.std.specs.Prelude.{slice_set}
use Rattle.std.specs.List.{remove}
use Rattle.ncp_monitor.proofs.Firsts.{first, Unique}

module _ {A : Type 0} (t : A → Bool) where
  -- what passes at a place is the first
  pub first_here : (xs : List A) (i : ℕ) (d : A) → i < length xs → Unique t xs → t (get_or xs i d) ≡ true → first t xs ≡ Some (get_or xs i d)
  first_here [] i d l u e = absurd (omega arith)
  first_here (x ∷ xs) zero d l u e = ap (λ (b : Bool). if b then Some x else first t xs) e
  first_here (x ∷ xs) (suc i) d l (h, u) e = go (t x) refl (first_here xs i d (omega arith) u e)
    where
      go : (b : Bool) → t x ≡ b → first t xs ≡ Some (get_or xs i d) → (if b then Some x else first t xs) ≡ Some (get_or xs i d)
      go true k rest = let nay : Some (get_or xs i d) ≡ None = sym rest ∙ h k in absurd (cc nay)
      go false k rest = rest

  -- ---- the item is replaced

  pub set_here : (xs : List A) (i : ℕ) (y d : A) → i < length xs → Unique t xs → t (get_or xs i d) ≡ true → t y ≡ true → first t (slice_set xs i y) ≡ Some y
  set_here [] i y d l u e f = absurd (omega arith)
  set_here (x ∷ xs) zero y d l u e f = ap (λ (b : Bool). if b then Some y else first t xs) f
  set_here (x ∷ xs) (suc i) y d l (h, u) e f = go (t x) refl (set_here xs i y d (omega arith) u e f)
    where
      go : (b : Bool) → t x ≡ b → first t (slice_set xs i y) ≡ Some y → (if b then Some x else first t (slice_set xs i y)) ≡ Some y
      go true k rest = let nay : Some (get_or xs i d) ≡ None = sym (first_here xs i d (omega arith) u e) ∙ h k in absurd (cc nay)
      go false k rest = rest

  pub set_other : (xs : List A) (i : ℕ) (y d : A) → t (get_or xs i d) ≡ false → t y ≡ false → first t (slice_set xs i y) ≡ first t xs
  set_other [] i y d e f = refl
  set_other (x ∷ xs) zero y d e f = ap (λ (b : Bool). if b then Some y else first t xs) f ∙ sym (ap (λ (b : Bool). if b then Some x else first t xs) e)
  set_other (x ∷ xs) (suc i) y d e f = ap (λ (o : Option A). if t x then Some x else o) (set_other xs i y d e f)

  none_here : (xs : List A) (i : ℕ) (d : A) → i < length xs → first t xs ≡ None → t (get_or xs i d) ≡ false
  none_here [] i d l e = absurd (omega arith)
  none_here (x ∷ xs) zero d l e = go (t x) refl e
    where
      go : (b : Bool) → t x ≡ b → (if b then Some x else first t xs) ≡ None → t x ≡ false
      go true k e = absurd (cc e)
      go false k e = k
  none_here (x ∷ xs) (suc i) d l e = go (t x) (none_here xs i d (omega arith)) e
    where
      go : (b : Bool) → (first t xs ≡ None → t (get_or xs i d) ≡ false) → (if b then Some x else first t xs) ≡ None → t (get_or xs i d) ≡ false
      go true rest e = absurd (cc e)
      go false rest e = rest e

  none_set : (xs : List A) (i : ℕ) (y d : A) → i < length xs → t y ≡ t (get_or xs i d) → first t xs ≡ None → first t (slice_set xs i y) ≡ None
  none_set xs i y d l e n = let no : t (get_or xs i d) ≡ false = none_here xs i d l n in set_other xs i y d no (e ∙ no) ∙ n

  pub unique_at : (xs : List A) (i : ℕ) (y d : A) → i < length xs → t y ≡ t (get_or xs i d) → Unique t xs → Unique t (slice_set xs i y)
  unique_at [] i y d l e u = tt
  unique_at (x ∷ xs) zero y d l e (h, u) = ((λ k. h (sym e ∙ k)), u)
  unique_at (x ∷ xs) (suc i) y d l e (h, u) = ((λ k. none_set xs i y d (omega arith) e (h k)), unique_at xs i y d (omega arith) e u)

  -- ---- it is taken away

  pub gone_here : (xs : List A) (i : ℕ) (d : A) → i < length xs → Unique t xs → t (get_or xs i d) ≡ true → first t (remove xs i) ≡ None
  gone_here [] i d l u e = absurd (omega arith)
  gone_here (x ∷ xs) zero d l (h, u) e = h e
  gone_here (x ∷ xs) (suc i) d l (h, u) e = go (t x) refl (gone_here xs i d (omega arith) u e)
    where
      go : (b : Bool) → t x ≡ b → first t (remove xs i) ≡ None → (if b then Some x else first t (remove xs i)) ≡ None
      go true k rest = let nay : Some (get_or xs i d) ≡ None = sym (first_here xs i d (omega arith) u e) ∙ h k in absurd (cc nay)
      go false k rest = rest

  pub gone_other : (xs : List A) (i : ℕ) (d : A) → i < length xs → t (get_or xs i d) ≡ false → first t (remove xs i) ≡ first t xs
  gone_other [] i d l e = absurd (omega arith)
  gone_other (x ∷ xs) zero d l e = sym (ap (λ (b : Bool). if b then Some x else first t xs) e)
  gone_other (x ∷ xs) (suc i) d l e = ap (λ (o : Option A). if t x then Some x else o) (gone_other xs i d (omega arith) e)

  none_gone : (xs : List A) (i : ℕ) (d : A) → i < length xs → first t xs ≡ None → first t (remove xs i) ≡ None
  none_gone xs i d l n = gone_other xs i d l (none_here xs i d l n) ∙ n

  pub unique_gone : (xs : List A) (i : ℕ) (d : A) → i < length xs → Unique t xs → Unique t (remove xs i)
  unique_gone [] i d l u = absurd (omega arith)
  unique_gone (x ∷ xs) zero d l (h, u) = u
  unique_gone (x ∷ xs) (suc i) d l (h, u) = ((λ k. none_gone xs i d (omega arith) (h k)), unique_gone xs i d (omega arith) u)
