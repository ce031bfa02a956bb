-- The first reason that holds: the result if several are checked in a stated order.
use Rattle.std.specs.Prelude.{⊤, ◌≡◌, ◌⊎◌, List, [], ◌∷◌}

-- this reason holds, and none before it in the list does
abbrev pub IsFirst : {A : Type 0} → (A → Type 0) → List A → A → Type 0
IsFirst holds [] reason = ⊥
IsFirst holds (next ∷ reasons) reason = ((reason ≡ next) × holds next) ⊎ ((¬ holds next) × IsFirst holds reasons reason)

abbrev pub NoneHolds : {A : Type 0} → (A → Type 0) → List A → Type 0
NoneHolds holds [] = ⊤
NoneHolds holds (next ∷ reasons) = (¬ holds next) × NoneHolds holds reasons
