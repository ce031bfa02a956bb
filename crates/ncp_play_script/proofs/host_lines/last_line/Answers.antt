use Rattle.std.proofs.Common.{◌≡◌, ℕ, List, [], ◌∷◌, None, Some, refl}
use Rattle.ncp_play_script.specs.HostLines.{alone}
use Rattle.ncp_play_script.proofs.host_lines.last_line.Goals as goal

is_alone : {A : Type 0} (it : A) (words : List (List ℕ)) → words ≡ [] → Some it ≡ alone it words
is_alone it [] none = refl
is_alone it (word ∷ words) none = absurd (cc)

not_alone : {A : Type 0} (it : A) (words : List (List ℕ)) → (words ≡ [] → ⊥) → None ≡ alone it words
not_alone it [] some = absurd (some refl)
not_alone it (word ∷ words) some = refl

pub returns-then-is_empty : goal.returns-then-is_empty
returns-then-is_empty c = is_alone c.args.line c.args.words.now (c.is_empty.ensures.0 c.if-is_empty.true)

pub returns-else-is_empty : goal.returns-else-is_empty
returns-else-is_empty c = not_alone c.args.line c.args.words.now (λ none. cc (c.is_empty.ensures.1 none))
