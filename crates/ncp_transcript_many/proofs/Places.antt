-- The thing of a number, by its place in the row.
use Rattle.std.proofs.Common.{◌≡◌, ℕ, suc, ◌+◌, ◌==◌, Bool, true, false, ◌||◌, cond, map, if◌then◌else◌, List, [], ◌∷◌, None, Some, refl, sym, ap, ◌∙◌, arith}
use Rattle.std.specs.Prelude.{slice_get, slice_set}
use Rattle.std.specs.List.{position, position_from}
use Rattle.std.proofs.lemmas.Iterator.Adapters.{position_from-zero}
use Rattle.ncp_host.specs.Host.{is_one_of}
use Rattle.ncp_transcript_many.specs.Numbered.{thing_in, at_thing}

-- no thing has the number
abbrev pub Nowhere : {A : Type 0} → List (ℕ × A) → ℕ → Type 0
Nowhere {A} xs n = (thing_in xs n ≡ None) × ((f : A → A) → at_thing n f xs ≡ xs)

-- the thing at this place has it, and is the first
abbrev pub AtPlace : {A : Type 0} → List (ℕ × A) → ℕ → ℕ → Type 0
AtPlace {A} xs n j = (x : ℕ × A) → slice_get xs j ≡ Some x → (thing_in xs n ≡ Some x.1) × ((f : A → A) → at_thing n f xs ≡ slice_set xs j (x.0, f x.1))

none-from : {A : Type 0} (xs : List (ℕ × A)) (n k : ℕ) → position_from (λ (x : ℕ × A). x.0 == n) k xs ≡ None → Nowhere xs n
none-from [] n k e = (refl, λ f. refl)
none-from {A} (x ∷ xs) n k e = go (x.0 == n) e (none-from xs n (k + 1))
  where
    go : (b : Bool) → cond b (Some k) (position_from (λ (x : ℕ × A). x.0 == n) (k + 1) xs) ≡ None
        → (position_from (λ (x : ℕ × A). x.0 == n) (k + 1) xs ≡ None → Nowhere xs n)
        → ((if b then Some x.1 else thing_in xs n) ≡ None) × ((f : A → A) → (if b then (x.0, f x.1) ∷ xs else x ∷ at_thing n f xs) ≡ x ∷ xs)
    go true e rest = absurd (cc)
    go false e rest = let r = rest e in (r.0, λ f. ap (λ (ys : List (ℕ × A)). x ∷ ys) (r.1 f))

some-from : {A : Type 0} (xs : List (ℕ × A)) (n k i : ℕ) → position_from (λ (x : ℕ × A). x.0 == n) k xs ≡ Some i → (j : ℕ) × (i ≡ k + j) × AtPlace xs n j
some-from [] n k i e = absurd (cc)
some-from {A} (x ∷ xs) n k i e = go (x.0 == n) e (some-from xs n (k + 1) i)
  where
    go : (b : Bool) → cond b (Some k) (position_from (λ (x : ℕ × A). x.0 == n) (k + 1) xs) ≡ Some i
        → (position_from (λ (x : ℕ × A). x.0 == n) (k + 1) xs ≡ Some i → (j : ℕ) × (i ≡ k + 1 + j) × AtPlace xs n j)
        → (j : ℕ) × (i ≡ k + j) × ((y : ℕ × A) → slice_get (x ∷ xs) j ≡ Some y → ((if b then Some x.1 else thing_in xs n) ≡ Some y.1) × ((f : A → A) → (if b then (x.0, f x.1) ∷ xs else x ∷ at_thing n f xs) ≡ slice_set (x ∷ xs) j (y.0, f y.1)))
    go true e rest = let same : k ≡ i = cc in (0, omega arith, λ y h. let here : x ≡ y = cc in (ap (λ (z : ℕ × A). Some z.1) here, λ f. ap (λ (z : ℕ × A). (z.0, f z.1) ∷ xs) here))
    go false e rest = let r = rest e in (suc r.0, omega (arith, r.1), λ y h. let u = r.2 y h in (u.0, λ f. ap (λ (ys : List (ℕ × A)). x ∷ ys) (u.1 f)))

pub place-none : {A : Type 0} (xs : List (ℕ × A)) (n : ℕ) → None ≡ position (λ (x : ℕ × A). x.0 == n) xs → Nowhere xs n
place-none {A} xs n e = none-from xs n 0 (sym (position_from-zero (λ (x : ℕ × A). x.0 == n) xs) ∙ sym e)

pub place-some : {A : Type 0} (xs : List (ℕ × A)) (n i : ℕ) → Some i ≡ position (λ (x : ℕ × A). x.0 == n) xs → AtPlace xs n i
place-some {A} xs n i e =
    let r = some-from xs n 0 i (sym (position_from-zero (λ (x : ℕ × A). x.0 == n) xs) ∙ sym e) in
    let same : r.0 ≡ i = omega (arith, r.1) in
    λ x h. let t = r.2 x (ap (slice_get xs) same ∙ h) in (t.0, λ f. t.1 f ∙ ap (λ (j : ℕ). slice_set xs j (x.0, f x.1)) same)

-- a number is there where it has a thing

pub found-there : {A : Type 0} (xs : List (ℕ × A)) (n : ℕ) (it : A) → thing_in xs n ≡ Some it → is_one_of n (map (λ x. x.0) xs) ≡ true
found-there [] n it e = absurd (cc e)
found-there {A} (x ∷ xs) n it e = go (x.0 == n) e (found-there xs n it)
  where
    go : (b : Bool) → (if b then Some x.1 else thing_in xs n) ≡ Some it → (thing_in xs n ≡ Some it → is_one_of n (map (λ x. x.0) xs) ≡ true) → (b || is_one_of n (map (λ x. x.0) xs)) ≡ true
    go true e rest = refl
    go false e rest = rest e

pub not-there : {A : Type 0} (xs : List (ℕ × A)) (n : ℕ) → thing_in xs n ≡ None → is_one_of n (map (λ x. x.0) xs) ≡ false
not-there [] n e = refl
not-there {A} (x ∷ xs) n e = go (x.0 == n) e (not-there xs n)
  where
    go : (b : Bool) → (if b then Some x.1 else thing_in xs n) ≡ None → (thing_in xs n ≡ None → is_one_of n (map (λ x. x.0) xs) ≡ false) → (b || is_one_of n (map (λ x. x.0) xs)) ≡ false
    go true e rest = absurd (cc e)
    go false e rest = rest e
