-- Two lists that are related item by item: through replacing, removing, and appending items.
use Rattle.std.proofs.Common.{◌≡◌, ◌<◌, ℕ, zero, suc, ◌+◌, Bool, true, false, not, if◌then◌else◌, List, [], ◌∷◌, ◌++◌, map, length, get_or, None, Some, refl, ap, ◌∙◌, arith}
use Rattle.std.specs.Prelude.{nat_lt, slice_set}
use Rattle.std.specs.List.{position, position_or_len, remove, filter}

abbrev pub Besides : {A B : Type 0} → (A → B → Type 0) → List A → List B → Type 0
Besides R [] [] = Unit {0}
Besides R [] (y ∷ ys) = ⊥
Besides R (x ∷ xs) [] = ⊥
Besides R (x ∷ xs) (y ∷ ys) = R x y × Besides R xs ys

module _ {A B : Type 0} (R : A → B → Type 0) where
  pub besides_length : (xs : List A) (ys : List B) → Besides R xs ys → length ys ≡ length xs
  besides_length [] [] k = refl
  besides_length [] (y ∷ ys) k = absurd k
  besides_length (x ∷ xs) [] k = absurd k
  besides_length (x ∷ xs) (y ∷ ys) (r, k) = ap suc (besides_length xs ys k)

  -- one more item at the end of each
  pub besides_after : (xs : List A) (ys : List B) (x : A) (y : B) → R x y → Besides R xs ys → Besides R (xs ++ x ∷ []) (ys ++ y ∷ [])
  besides_after [] [] x y r k = (r, tt)
  besides_after [] (z ∷ ys) x y r k = absurd k
  besides_after (z ∷ xs) [] x y r k = absurd k
  besides_after (z ∷ xs) (w ∷ ys) x y r (s, k) = (s, besides_after xs ys x y r k)

  -- those in a place
  pub besides_at : (xs : List A) (ys : List B) (i : ℕ) (d : A) (e : B) → i < length xs → Besides R xs ys → R (get_or xs i d) (get_or ys i e)
  besides_at [] ys i d e l k = absurd (omega arith)
  besides_at (x ∷ xs) [] i d e l k = absurd k
  besides_at (x ∷ xs) (y ∷ ys) zero d e l (r, k) = r
  besides_at (x ∷ xs) (y ∷ ys) (suc i) d e l (r, k) = besides_at xs ys i d e (omega arith) k

  -- others in a place
  pub besides_set : (xs : List A) (ys : List B) (i : ℕ) (x : A) (y : B) → R x y → Besides R xs ys → Besides R (slice_set xs i x) (slice_set ys i y)
  besides_set [] [] i x y r k = tt
  besides_set [] (z ∷ ys) i x y r k = absurd k
  besides_set (z ∷ xs) [] i x y r k = absurd k
  besides_set (z ∷ xs) (w ∷ ys) zero x y r (s, k) = (r, k)
  besides_set (z ∷ xs) (w ∷ ys) (suc i) x y r (s, k) = (s, besides_set xs ys i x y r k)

  -- another item at an index, related to the one there
  pub besides_here : (xs : List A) (ys : List B) (i : ℕ) (x : A) (e : B) → R x (get_or ys i e) → Besides R xs ys → Besides R (slice_set xs i x) ys
  besides_here [] [] i x e r k = tt
  besides_here [] (z ∷ ys) i x e r k = absurd k
  besides_here (z ∷ xs) [] i x e r k = absurd k
  besides_here (z ∷ xs) (w ∷ ys) zero x e r (s, k) = (r, k)
  besides_here (z ∷ xs) (w ∷ ys) (suc i) x e r (s, k) = (s, besides_here xs ys i x e r k)

  -- none in a place
  pub besides_remove : (xs : List A) (ys : List B) (i : ℕ) → Besides R xs ys → Besides R (remove xs i) (remove ys i)
  besides_remove [] [] zero k = tt
  besides_remove [] [] (suc i) k = tt
  besides_remove [] (z ∷ ys) i k = absurd k
  besides_remove (z ∷ xs) [] i k = absurd k
  besides_remove (z ∷ xs) (w ∷ ys) zero (s, k) = k
  besides_remove (z ∷ xs) (w ∷ ys) (suc i) (s, k) = (s, besides_remove xs ys i k)

  -- those that pass
  pub besides_filter : (p : A → Bool) (q : B → Bool) → ((x : A) (y : B) → R x y → q y ≡ p x) → (xs : List A) (ys : List B) → Besides R xs ys → Besides R (filter p xs) (filter q ys)
  besides_filter p q f [] [] k = tt
  besides_filter p q f [] (z ∷ ys) k = absurd k
  besides_filter p q f (z ∷ xs) [] k = absurd k
  besides_filter p q f (z ∷ xs) (w ∷ ys) (s, k) = go (p z) (q w) (f z w s) (besides_filter p q f xs ys k)
    where
      go : (b c : Bool) → c ≡ b → Besides R (filter p xs) (filter q ys) → Besides R (if b then z ∷ filter p xs else filter p xs) (if c then w ∷ filter q ys else filter q ys)
      go true true e rest = (s, rest)
      go false false e rest = rest
      go true false e rest = absurd (cc e)
      go false true e rest = absurd (cc e)

  -- the first item that passes has the same index
  first_index : (p : A → Bool) (q : B → Bool) → ((x : A) (y : B) → R x y → q y ≡ p x) → (xs : List A) (ys : List B) → Besides R xs ys → position_or_len q ys ≡ position_or_len p xs
  first_index p q f [] [] k = refl
  first_index p q f [] (z ∷ ys) k = absurd k
  first_index p q f (z ∷ xs) [] k = absurd k
  first_index p q f (z ∷ xs) (w ∷ ys) (s, k) =
      ap (λ (b : Bool). if not b then 1 + position_or_len q ys else 0) (f z w s) ∙ ap (λ (n : ℕ). if not (p z) then 1 + n else 0) (first_index p q f xs ys k)

  pub besides_position : (p : A → Bool) (q : B → Bool) → ((x : A) (y : B) → R x y → q y ≡ p x) → (xs : List A) (ys : List B) → Besides R xs ys → position q ys ≡ position p xs
  besides_position p q f xs ys k =
      ap (λ (n : ℕ). if nat_lt n (length ys) then Some n else None) (first_index p q f xs ys k)
      ∙ ap (λ (m : ℕ). if nat_lt (position_or_len p xs) m then Some (position_or_len p xs) else None) (besides_length xs ys k)

  -- of another that holds of each two
  pub besides_more : (S : A → B → Type 0) → ((x : A) (y : B) → R x y → S x y) → (xs : List A) (ys : List B) → Besides R xs ys → Besides S xs ys
  besides_more S f [] [] k = tt
  besides_more S f [] (z ∷ ys) k = absurd k
  besides_more S f (z ∷ xs) [] k = absurd k
  besides_more S f (z ∷ xs) (w ∷ ys) (s, k) = (f z w s, besides_more S f xs ys k)

-- ---- lists that are empty

pub front_none : {A : Type 0} (xs ys : List A) → xs ++ ys ≡ [] → xs ≡ []
front_none [] ys e = refl
front_none (x ∷ xs) ys e = absurd (cc e)

pub rest_none : {A : Type 0} (xs ys : List A) → xs ++ ys ≡ [] → ys ≡ []
rest_none [] ys e = e
rest_none (x ∷ xs) ys e = absurd (cc e)

pub map_none : {A B : Type 0} (f : A → B) (xs : List A) → map f xs ≡ [] → xs ≡ []
map_none f [] e = refl
map_none f (x ∷ xs) e = absurd (cc e)
