-- A line is cut at its first space.
use Rattle.std.proofs.Common.{◌≡◌, ℕ, suc, ◌+◌, ◌-◌, ◌<◌, ◌==◌, Bool, true, false, not, cond, nat_lt, List, [], ◌∷◌, length, take, drop, Option, Some, None, option_map, is_some, IsTrue, position, refl, ◌∙◌, ap, arith, rules}
use Rattle.std.specs.List.{position_or_len, onto_first}
use Rattle.std.proofs.lemmas.Bool.Decides.{nat_tests}
use Rattle.std.proofs.lemmas.Grind.{common_steps}
use Rattle.std.proofs.lemmas.List.Splits.{slice_split_first, slice_split-cons_no, length-slice_split}
use Rattle.ncp_play_script.specs.Words.{words_of, words_left, is_only}

abbrev is_space : ℕ → Bool
is_space byte = byte == 32

-- a place was found, or none
pub is_found : (there : Bool) (at place : ℕ) → Some place ≡ cond there (Some at) None → (there ≡ true) × (place ≡ at)
is_found true at place found = (refl, cc)
is_found false at place found = absurd (cc)

pub is_not_found : (there : Bool) (at : ℕ) → None ≡ cond there (Some at) None → there ≡ false
is_not_found true at found = absurd (cc)
is_not_found false at found = refl

pub cut_some : (line : List ℕ) (place : ℕ) → Some place ≡ position (λ byte. byte == 32) line → words_of line ≡ take place line ∷ words_of (take (length line - (place + 1)) (drop (place + 1) line))
cut_some line place found =
    let at = is_found (nat_lt (position_or_len is_space line) (length line)) (position_or_len is_space line) place found in
    let inside : position_or_len is_space line < length line = grind (arith, nat_tests, at.0) in
    let first = slice_split_first is_space line 0 inside in
    let whole : take (length line - (place + 1)) (drop (place + 1) line) ≡ drop (place + 1) line = grind (arith, common_steps) in
    rw (whole, at.1) first

-- no space at the front, and none behind it
pub tail_uncut : (space : Bool) (at len : ℕ) → nat_lt (cond (not space) (1 + at) 0) (suc len) ≡ false → (space ≡ false) × (nat_lt at len ≡ false)
tail_uncut true at len none = absurd (grind (arith, nat_tests))
tail_uncut false at len none = (refl, grind (arith, nat_tests))

uncut : (line : List ℕ) → nat_lt (position_or_len is_space line) (length line) ≡ false → words_of line ≡ line ∷ []
uncut [] none = refl
uncut (byte ∷ line) none =
    let tail = tail_uncut (is_space byte) (position_or_len is_space line) (length line) none in
    slice_split-cons_no is_space byte line tail.0 ∙ ap (λ words. onto_first byte words) (uncut line tail.1)

pub cut_none : (line : List ℕ) → None ≡ position (λ byte. byte == 32) line → words_of line ≡ line ∷ []
cut_none line found = uncut line (is_not_found (nat_lt (position_or_len is_space line) (length line)) (position_or_len is_space line) found)

-- all words are read exactly where nothing is left of the line
pub all_read : {A : Type 0} (f : A → List ℕ) (rest : Option A) (gone : Bool) → is_some rest ≡ not gone → (IsTrue gone → words_left (option_map f rest) ≡ []) × (words_left (option_map f rest) ≡ [] → IsTrue gone)
all_read f None true e = (λ _. refl, λ _. search rules)
all_read f None false e = absurd (cc)
all_read f (Some line) true e = absurd (cc)
all_read f (Some line) false e =
    (λ yes. absurd (cc), λ none. let len = length-slice_split is_space (f line) in let zero : length (words_of (f line)) ≡ 0 = ap length none in absurd (omega (arith, len, zero)))

-- behind a space there is a word more
pub not_only : (wanted word rest : List ℕ) → false ≡ is_only wanted (word ∷ words_of rest)
not_only wanted word rest = let len = length-slice_split is_space rest in several (words_of rest) (omega (arith, len)) where
  several : (words : List (List ℕ)) → 0 < length words → false ≡ is_only wanted (word ∷ words)
  several [] none = absurd (omega (arith, none))
  several (next ∷ words) some = refl
