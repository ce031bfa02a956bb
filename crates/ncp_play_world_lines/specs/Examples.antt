-- The hosts of the example scripts.
use Rattle.std.specs.Prelude.{ℕ, List, [], ◌∷◌}

-- three hosts
abbrev pub three : List ℕ
three = 1 ∷ 2 ∷ 3 ∷ []
