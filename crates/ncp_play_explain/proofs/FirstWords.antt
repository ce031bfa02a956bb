-- The first word of a line.
use Rattle.std.proofs.Common.{◌≡◌, ◌+◌, ℕ, Bool, true, false, not, cond, List, [], ◌∷◌, take, Some, refl, sym, ap, ◌∙◌}
use Rattle.std.specs.List.{slice_get, slice_split, onto_first, before_first, prefix_len}
use Rattle.std.specs.Option.{option_map}
use Rattle.std.proofs.Math.Numerals.{one-add}

longer_first : (x : ℕ) (parts : List (List ℕ)) (w : List ℕ) → slice_get parts 0 ≡ Some w → slice_get (onto_first x parts) 0 ≡ Some (x ∷ w)
longer_first x [] w h = absurd cc
longer_first x (part ∷ parts) w h = ap (λ o. option_map (λ l. x ∷ l) o) h

split_step : (p : ℕ → Bool) (x : ℕ) (xs : List ℕ) (parts : List (List ℕ)) (n : ℕ) → slice_get parts 0 ≡ Some (take n xs) → (t : Bool) →
    slice_get (cond t ([] ∷ parts) (onto_first x parts)) 0 ≡ Some (take (cond (not t) (1 + n) 0) (x ∷ xs))
split_step p x xs parts n h true = refl
split_step p x xs parts n h false = longer_first x parts (take n xs) h ∙ ap (λ m. Some (take m (x ∷ xs))) (sym (one-add n))

-- the first part that a list is cut in is what stands before the first cut
pub first_split : (p : ℕ → Bool) (xs : List ℕ) → slice_get (slice_split p xs) 0 ≡ Some (before_first p xs)
first_split p [] = refl
first_split p (x ∷ xs) = split_step p x xs (slice_split p xs) (prefix_len (λ y. not (p y)) xs) (first_split p xs) (p x)
