-- When two words are nearly the same: a mistyped word and the one that was meant.
use Rattle.std.specs.Prelude.{◌≡◌, ◌==◌, ◌<◌, ◌≤◌, ◌+◌, ℕ, List, ◌++◌, map, length, take, Some, All, slice_get, if◌then◌else◌}
use Rattle.std.specs.Char.{to_ascii_lowercase}

-- a letter as compared: capitals as small letters, and '_' as '-'
abbrev pub folded : ℕ → ℕ
folded letter = if letter == 95 then 45 else to_ascii_lowercase letter

-- two words are the same except in one place, where each has at most `most` letters, and they have at
-- least two letters in common
pub record IsNear (most : ℕ) (word known : List ℕ) : Type 0 where
  pub front : List ℕ
  pub here : List ℕ
  pub there : List ℕ
  pub end : List ℕ
  pub word_is : map folded word ≡ front ++ here ++ end
  pub known_is : map folded known ≡ front ++ there ++ end
  pub few_here : length here ≤ most
  pub few_there : length there ≤ most
  pub common : 2 ≤ length front + length end

-- no word of these is near
abbrev pub NoneIsNear : ℕ → List ℕ → List (List ℕ) → Type 0
NoneIsNear most word known = All (λ other. ¬ (IsNear most word other)) known

-- a word is the first of these that is near
pub record IsFirstNear (most : ℕ) (word : List ℕ) (known : List (List ℕ)) (found : List ℕ) : Type 0 where
  pub place : ℕ
  pub there : slice_get known place ≡ Some found
  pub near : IsNear most word found
  pub first : NoneIsNear most word (take place known)

-- a word is the nearest of these: the first of those with the fewest wrong letters, at most two
pub record IsNearest (word : List ℕ) (known : List (List ℕ)) (found : List ℕ) : Type 0 where
  pub wrong : ℕ
  pub few : wrong ≤ 2
  pub first : IsFirstNear wrong word known found
  pub fewest : (fewer : ℕ) → fewer < wrong → NoneIsNear fewer word known
