use Rattle.std.proofs.Common.{◌≡◌, ℕ, List, [], ◌∷◌, Option, None, Some, option_map, refl}
use Rattle.ncp_play_script.specs.Calls.{all_of}
use Rattle.ncp_play_script.proofs.calls.last.Goals as goal

are_all : {A : Type 0} (read : Option A) (words : List (List ℕ)) → words ≡ [] → read ≡ all_of (option_map (λ it. (it, words)) read)
are_all None words none = refl
are_all (Some it) [] none = refl
are_all (Some it) (word ∷ words) none = absurd (cc)

not_all : {A : Type 0} (read : Option A) (words : List (List ℕ)) → (words ≡ [] → ⊥) → None ≡ all_of (option_map (λ it. (it, words)) read)
not_all None words some = refl
not_all (Some it) [] some = absurd (some refl)
not_all (Some it) (word ∷ words) some = refl

pub returns-then-is_empty : goal.returns-then-is_empty
returns-then-is_empty c = are_all c.args.call c.args.words.now (c.is_empty.ensures.0 c.if-is_empty.true)

pub returns-else-is_empty : goal.returns-else-is_empty
returns-else-is_empty c = not_all c.args.call c.args.words.now (λ none. cc (c.is_empty.ensures.1 none))
