-- A set of links: one bit of a number for each.
use Rattle.std.specs.Prelude.{◌≡◌, ℕ, ◌<◌, ◌≤◌, ◌==◌, Bool, true, false, Option, None, Some}
use Rattle.std.specs.Int.{bit_at}

-- whether a link is in the set
abbrev pub is_in : ℕ → ℕ → Bool
is_in links on = bit_at links on == 1

-- the lowest link of the set from `from` up
pub record IsLowest (links from on : ℕ) : Type 0 where
  pub least : from ≤ on
  pub here : is_in links on ≡ true
  pub lower : (other : ℕ) → from ≤ other → other < on → is_in links other ≡ false

-- the lowest link of the set from `from` up, if there is one
abbrev pub IsLowestIfAny : ℕ → ℕ → Option ℕ → Type 0
IsLowestIfAny links from None = (on : ℕ) → from ≤ on → is_in links on ≡ false
IsLowestIfAny links from (Some on) = IsLowest links from on
