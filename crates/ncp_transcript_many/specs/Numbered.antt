-- Lists of items with numbers.
use Rattle.std.specs.Prelude.{ℕ, ◌==◌, if◌then◌else◌, List, [], ◌∷◌, Option, None, Some}

-- the item with this number, if there is one
abbrev pub thing_in : {A : Type 0} → List (ℕ × A) → ℕ → Option A
thing_in [] number = None
thing_in (x ∷ xs) number = if x.0 == number then Some x.1 else thing_in xs number

-- applies `f` to the item with this number; the others are unchanged
abbrev pub at_thing : {A : Type 0} → ℕ → (A → A) → List (ℕ × A) → List (ℕ × A)
at_thing number f [] = []
at_thing number f (x ∷ xs) = if x.0 == number then (x.0, f x.1) ∷ xs else x ∷ at_thing number f xs
