-- The first of a list that passes a test: found, put anew, or taken away; and what that is to another test.
use Rattle.std.proofs.Common.{◌≡◌, ◌<◌, ℕ, zero, suc, Bool, true, false, if◌then◌else◌, List, [], ◌∷◌, ◌++◌, length, get_or, Option, None, Some, refl, inl, inr, sym, ap, ◌∙◌, arith, ◌+◌}
use Rattle.std.specs.Prelude.{nat_lt, slice_set}
use Rattle.std.specs.List.{position, position_or_len, remove, filter}
use Rattle.std.proofs.lemmas.Bool.{cases_lt}
use Rattle.std.proofs.lemmas.Bool.Decides.{nat_tests}
use Rattle.std.proofs.lemmas.List.Quantifiers.{position-Some}

abbrev pub first : {A : Type 0} → (A → Bool) → List A → Option A
first t [] = None
first t (x ∷ xs) = if t x then Some x else first t xs

abbrev pub set_first : {A : Type 0} → (A → Bool) → A → List A → List A
set_first t y [] = []
set_first t y (x ∷ xs) = if t x then y ∷ xs else x ∷ set_first t y xs

abbrev pub drop_first : {A : Type 0} → (A → Bool) → List A → List A
drop_first t [] = []
drop_first t (x ∷ xs) = if t x then xs else x ∷ drop_first t xs

-- ---- by its place

first_at : {A : Type 0} (t : A → Bool) (xs : List A) (i : ℕ) (d : A) → i < length xs → t (get_or xs i d) ≡ true → ((k : ℕ) → k < i → t (get_or xs k d) ≡ false) → first t xs ≡ Some (get_or xs i d)
first_at t [] i d inside is before = absurd (omega arith)
first_at t (x ∷ xs) zero d inside is before = rw is refl
first_at t (x ∷ xs) (suc i) d inside is before =
    let none = before 0 (omega arith) in
    let rest = first_at t xs i d (omega arith) is (λ k less. before (suc k) (omega arith)) in rw (none, rest) refl

pub found_first : {A : Type 0} (t : A → Bool) (xs : List A) (i : ℕ) (d : A) → position t xs ≡ Some i → first t xs ≡ Some (get_or xs i d)
found_first t xs i d e = let found = position-Some t xs i d e in first_at t xs i d found.0 found.1 found.2

pub none_first : {A : Type 0} (t : A → Bool) (xs : List A) → position t xs ≡ None → first t xs ≡ None
none_first t [] e = refl
none_first t (x ∷ xs) e = go (t x) refl (none_first t xs)
  where
    go : (b : Bool) → t x ≡ b → (position t xs ≡ None → first t xs ≡ None) → (if b then Some x else first t xs) ≡ None
    go true is rest =
        let inside : nat_lt 0 (suc (length xs)) ≡ true = grind (arith, nat_tests) in
        let shown : position t (x ∷ xs) ≡ (if nat_lt 0 (suc (length xs)) then Some 0 else None) = rw is refl in
        let nay : Some 0 ≡ None = sym (rw inside at shown) ∙ e in absurd (cc nay)
    go false is rest = elim (cases_lt (position_or_len t xs) (length xs)) [
      | inl under ↦
          let n = position_or_len t xs in
          let inside : nat_lt (1 + n) (suc (length xs)) ≡ true = grind (arith, nat_tests) in
          let shown : position t (x ∷ xs) ≡ (if nat_lt (1 + n) (suc (length xs)) then Some (1 + n) else None) = rw is refl in
          let nay : Some (1 + n) ≡ None = sym (rw inside at shown) ∙ e in absurd (cc nay)
      | inr over ↦
          let n = position_or_len t xs in
          let out : nat_lt n (length xs) ≡ false = grind (arith, nat_tests) in
          let none : position t xs ≡ None = rw out refl in rest none
    ]

set_at : {A : Type 0} (t : A → Bool) (y : A) (xs : List A) (i : ℕ) (d : A) → i < length xs → t (get_or xs i d) ≡ true → ((k : ℕ) → k < i → t (get_or xs k d) ≡ false) → slice_set xs i y ≡ set_first t y xs
set_at t y [] i d inside is before = absurd (omega arith)
set_at t y (x ∷ xs) zero d inside is before = rw is refl
set_at t y (x ∷ xs) (suc i) d inside is before =
    let none = before 0 (omega arith) in
    let rest = set_at t y xs i d (omega arith) is (λ k less. before (suc k) (omega arith)) in rw (none, rest) refl

pub set_found : {A : Type 0} (t : A → Bool) (y : A) (xs : List A) (i : ℕ) (d : A) → position t xs ≡ Some i → slice_set xs i y ≡ set_first t y xs
set_found t y xs i d e = let found = position-Some t xs i d e in set_at t y xs i d found.0 found.1 found.2

drop_at : {A : Type 0} (t : A → Bool) (xs : List A) (i : ℕ) (d : A) → i < length xs → t (get_or xs i d) ≡ true → ((k : ℕ) → k < i → t (get_or xs k d) ≡ false) → remove xs i ≡ drop_first t xs
drop_at t [] i d inside is before = absurd (omega arith)
drop_at t (x ∷ xs) zero d inside is before = rw is refl
drop_at t (x ∷ xs) (suc i) d inside is before =
    let none = before 0 (omega arith) in
    let rest = drop_at t xs i d (omega arith) is (λ k less. before (suc k) (omega arith)) in rw (none, rest) refl

pub drop_found : {A : Type 0} (t : A → Bool) (xs : List A) (i : ℕ) (d : A) → position t xs ≡ Some i → remove xs i ≡ drop_first t xs
drop_found t xs i d e = let found = position-Some t xs i d e in drop_at t xs i d found.0 found.1 found.2

-- ---- one more behind all

pub first_after : {A : Type 0} (t : A → Bool) (xs : List A) (y : A) → first t xs ≡ None → first t (xs ++ y ∷ []) ≡ (if t y then Some y else None)
first_after t [] y e = refl
first_after t (x ∷ xs) y e = go (t x) (first_after t xs y) e
  where
    go : (b : Bool) → (first t xs ≡ None → first t (xs ++ y ∷ []) ≡ (if t y then Some y else None)) → (if b then Some x else first t xs) ≡ None
        → (if b then Some x else first t (xs ++ y ∷ [])) ≡ (if t y then Some y else None)
    go true rest e = absurd (cc e)
    go false rest e = rest e

pub first_before : {A : Type 0} (t : A → Bool) (xs : List A) (y z : A) → first t xs ≡ Some z → first t (xs ++ y ∷ []) ≡ Some z
first_before t [] y z e = absurd (cc e)
first_before t (x ∷ xs) y z e = go (t x) (first_before t xs y z) e
  where
    go : (b : Bool) → (first t xs ≡ Some z → first t (xs ++ y ∷ []) ≡ Some z) → (if b then Some x else first t xs) ≡ Some z → (if b then Some x else first t (xs ++ y ∷ [])) ≡ Some z
    go true rest e = e
    go false rest e = rest e

pub other_following : {A : Type 0} (s : A → Bool) (xs : List A) (y : A) → s y ≡ false → first s (xs ++ y ∷ []) ≡ first s xs
other_following {A} s [] y k = ap (λ (b : Bool). if b then Some y else None) k
other_following {A} s (x ∷ xs) y k = ap (λ (o : Option A). if s x then Some x else o) (other_following s xs y k)

-- ---- put anew

pub first_set : {A : Type 0} (t : A → Bool) (xs : List A) (y z : A) → t y ≡ true → first t xs ≡ Some z → first t (set_first t y xs) ≡ Some y
first_set t [] y z k e = absurd (cc e)
first_set t (x ∷ xs) y z k e = go (t x) refl (first_set t xs y z k) e
  where
    go : (b : Bool) → t x ≡ b → (first t xs ≡ Some z → first t (set_first t y xs) ≡ Some y) → (if b then Some x else first t xs) ≡ Some z → first t (if b then y ∷ xs else x ∷ set_first t y xs) ≡ Some y
    go true is rest e = ap (λ (b : Bool). if b then Some y else first t xs) k
    go false is rest e = ap (λ (b : Bool). if b then Some x else first t (set_first t y xs)) is ∙ rest e

-- what passes the one does not pass the other
abbrev pub Apart : {A : Type 0} → (A → Bool) → (A → Bool) → Type 0
Apart {A} t s = (x : A) → t x ≡ true → s x ≡ false

pub other_set : {A : Type 0} (t s : A → Bool) (xs : List A) (y : A) → Apart t s → s y ≡ false → first s (set_first t y xs) ≡ first s xs
other_set {A} t s [] y a k = refl
other_set {A} t s (x ∷ xs) y a k = go (t x) refl (other_set t s xs y a k)
  where
    go : (b : Bool) → t x ≡ b → first s (set_first t y xs) ≡ first s xs → first s (if b then y ∷ xs else x ∷ set_first t y xs) ≡ (if s x then Some x else first s xs)
    go true is rest = ap (λ (b : Bool). if b then Some y else first s xs) k ∙ sym (ap (λ (b : Bool). if b then Some x else first s xs) (a x is))
    go false is rest = ap (λ (o : Option A). if s x then Some x else o) rest

-- ---- taken away

pub other_drop : {A : Type 0} (t s : A → Bool) (xs : List A) → Apart t s → first s (drop_first t xs) ≡ first s xs
other_drop {A} t s [] a = refl
other_drop {A} t s (x ∷ xs) a = go (t x) refl (other_drop t s xs a)
  where
    go : (b : Bool) → t x ≡ b → first s (drop_first t xs) ≡ first s xs → first s (if b then xs else x ∷ drop_first t xs) ≡ (if s x then Some x else first s xs)
    go true is rest = sym (ap (λ (b : Bool). if b then Some x else first s xs) (a x is))
    go false is rest = ap (λ (o : Option A). if s x then Some x else o) rest

-- ---- filtered

pub first_filter : {A : Type 0} (t p : A → Bool) (xs : List A) → ((x : A) → t x ≡ true → p x ≡ true) → first t (filter p xs) ≡ first t xs
first_filter {A} t p [] w = refl
first_filter {A} t p (x ∷ xs) w = go (p x) refl (t x) refl (first_filter t p xs w)
  where
    go : (b : Bool) → p x ≡ b → (c : Bool) → t x ≡ c → first t (filter p xs) ≡ first t xs → first t (if b then x ∷ filter p xs else filter p xs) ≡ (if t x then Some x else first t xs)
    go true k c e rest = ap (λ (o : Option A). if t x then Some x else o) rest
    go false k true e rest = let nay : false ≡ true = sym k ∙ w x e in absurd (cc nay)
    go false k false e rest = rest ∙ sym (ap (λ (b : Bool). if b then Some x else first t xs) e)

pub none_filter : {A : Type 0} (t p : A → Bool) (xs : List A) → ((x : A) → t x ≡ true → p x ≡ false) → first t (filter p xs) ≡ None
none_filter t p [] w = refl
none_filter t p (x ∷ xs) w = go (p x) refl (t x) refl (none_filter t p xs w)
  where
    go : (b : Bool) → p x ≡ b → (c : Bool) → t x ≡ c → first t (filter p xs) ≡ None → first t (if b then x ∷ filter p xs else filter p xs) ≡ None
    go false k c e rest = rest
    go true k true e rest = let nay : true ≡ false = sym k ∙ w x e in absurd (cc nay)
    go true k false e rest = ap (λ (c : Bool). if c then Some x else first t (filter p xs)) e ∙ rest

-- ---- at most one passes

abbrev pub Unique : {A : Type 0} → (A → Bool) → List A → Type 0
Unique t [] = Unit {0}
Unique t (x ∷ xs) = (t x ≡ true → first t xs ≡ None) × Unique t xs

-- so none is left where it is taken away
pub none_left : {A : Type 0} (t : A → Bool) (xs : List A) → Unique t xs → first t (drop_first t xs) ≡ None
none_left t [] u = refl
none_left t (x ∷ xs) (h, u) = go (t x) refl (none_left t xs u)
  where
    go : (b : Bool) → t x ≡ b → first t (drop_first t xs) ≡ None → first t (if b then xs else x ∷ drop_first t xs) ≡ None
    go true k rest = h k
    go false k rest = ap (λ (b : Bool). if b then Some x else first t (drop_first t xs)) k ∙ rest

-- one more, where there is none, or that does not pass
pub unique_following : {A : Type 0} (t : A → Bool) (xs : List A) (y : A) → (t y ≡ true → first t xs ≡ None) → Unique t xs → Unique t (xs ++ y ∷ [])
unique_following t [] y h u = ((λ k. refl), tt)
unique_following t (x ∷ xs) y h (g, u) = (only (t x) refl, unique_following t xs y (λ k. rest (t x) refl (h k)) u)
  where
    rest : (b : Bool) → t x ≡ b → (if b then Some x else first t xs) ≡ None → first t xs ≡ None
    rest true k e = g k
    rest false k e = e

    last : (c : Bool) → t y ≡ c → t x ≡ true → (if t y then Some y else None) ≡ None
    last true k e = let nay : Some x ≡ None = sym (ap (λ (b : Bool). if b then Some x else first t xs) e) ∙ h k in absurd (cc nay)
    last false k e = ap (λ (b : Bool). if b then Some y else None) k

    only : (b : Bool) → t x ≡ b → t x ≡ true → first t (xs ++ y ∷ []) ≡ None
    only b k e = first_after t xs y (g e) ∙ last (t y) refl e

-- one fewer
none_drop : {A : Type 0} (t s : A → Bool) (xs : List A) → first t xs ≡ None → first t (drop_first s xs) ≡ None
none_drop t s [] e = refl
none_drop t s (x ∷ xs) e = go (s x) (t x) refl (none_drop t s xs) e
  where
    go : (b c : Bool) → t x ≡ c → (first t xs ≡ None → first t (drop_first s xs) ≡ None) → (if c then Some x else first t xs) ≡ None → first t (if b then xs else x ∷ drop_first s xs) ≡ None
    go b true k rest e = absurd (cc e)
    go true false k rest e = e
    go false false k rest e = ap (λ (c : Bool). if c then Some x else first t (drop_first s xs)) k ∙ rest e

pub unique_drop : {A : Type 0} (t s : A → Bool) (xs : List A) → Unique t xs → Unique t (drop_first s xs)
unique_drop t s [] u = tt
unique_drop t s (x ∷ xs) (h, u) = go (s x) (unique_drop t s xs u)
  where
    go : (b : Bool) → Unique t (drop_first s xs) → Unique t (if b then xs else x ∷ drop_first s xs)
    go true rest = u
    go false rest = ((λ k. none_drop t s xs (h k)), rest)

-- another in its place, which passes the same
none_set : {A : Type 0} (t s : A → Bool) (xs : List A) (y : A) → ((x : A) → s x ≡ true → t y ≡ t x) → first t xs ≡ None → first t (set_first s y xs) ≡ None
none_set t s [] y w e = refl
none_set t s (x ∷ xs) y w e = go (s x) refl (t x) refl (none_set t s xs y w) e
  where
    go : (b : Bool) → s x ≡ b → (c : Bool) → t x ≡ c → (first t xs ≡ None → first t (set_first s y xs) ≡ None) → (if c then Some x else first t xs) ≡ None → first t (if b then y ∷ xs else x ∷ set_first s y xs) ≡ None
    go b j true k rest e = absurd (cc e)
    go true j false k rest e = ap (λ (c : Bool). if c then Some y else first t xs) (w x j ∙ k) ∙ e
    go false j false k rest e = ap (λ (c : Bool). if c then Some x else first t (set_first s y xs)) k ∙ rest e

pub unique_set : {A : Type 0} (t s : A → Bool) (xs : List A) (y : A) → ((x : A) → s x ≡ true → t y ≡ t x) → Unique t xs → Unique t (set_first s y xs)
unique_set t s [] y w u = tt
unique_set t s (x ∷ xs) y w (h, u) = go (s x) refl (unique_set t s xs y w u)
  where
    go : (b : Bool) → s x ≡ b → Unique t (set_first s y xs) → Unique t (if b then y ∷ xs else x ∷ set_first s y xs)
    go true j rest = ((λ k. h (sym (w x j) ∙ k)), u)
    go false j rest = ((λ k. none_set t s xs y w (h k)), rest)

-- fewer
none_of_fewer : {A : Type 0} (t p : A → Bool) (xs : List A) → first t xs ≡ None → first t (filter p xs) ≡ None
none_of_fewer t p [] e = refl
none_of_fewer t p (x ∷ xs) e = go (p x) (t x) refl (none_of_fewer t p xs) e
  where
    go : (b c : Bool) → t x ≡ c → (first t xs ≡ None → first t (filter p xs) ≡ None) → (if c then Some x else first t xs) ≡ None → first t (if b then x ∷ filter p xs else filter p xs) ≡ None
    go b true k rest e = absurd (cc e)
    go false false k rest e = rest e
    go true false k rest e = ap (λ (c : Bool). if c then Some x else first t (filter p xs)) k ∙ rest e

pub unique_filter : {A : Type 0} (t p : A → Bool) (xs : List A) → Unique t xs → Unique t (filter p xs)
unique_filter t p [] u = tt
unique_filter t p (x ∷ xs) (h, u) = go (p x) (unique_filter t p xs u)
  where
    go : (b : Bool) → Unique t (filter p xs) → Unique t (if b then x ∷ filter p xs else filter p xs)
    go true rest = ((λ k. none_of_fewer t p xs (h k)), rest)
    go false rest = rest
