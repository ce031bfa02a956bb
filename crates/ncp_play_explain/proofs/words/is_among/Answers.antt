-- A word that is the same as one of these.
use Rattle.std.proofs.Common.{◌≡◌, ◌||◌, Bool, List, [], ◌∷◌, map, bytes_eq, refl, sym, ap, ◌∙◌}
use Rattle.std.specs.List.{list_any}
use Rattle.std.specs.Cmp.Lexicographic.{same_text}
use Rattle.std.proofs.lemmas.List.Folds.{list_any_at}
use Rattle.std.proofs.lemmas.Map.Views.{Contains-from_any}
use Rattle.ncp_play_explain.proofs.Apart.{same_self}
use Rattle.ncp_play_explain.proofs.words.is_among.Goals as goal

any_map : {X Y : Type 0} (p : Y → Bool) (f : X → Y) (xs : List X) → list_any (λ x. p (f x)) xs ≡ list_any p (map f xs)
any_map p f [] = refl
any_map p f (x ∷ xs) = ap (λ b. p (f x) || b) (any_map p f xs)

pub returns-clause-test : goal.returns-clause-test
returns-clause-test c = c.contains.ensures.value ∙ any_map (λ one. bytes_eq one c.args.word.now) (λ one. one.now) c.args.known.now

pub returns-clause-there : goal.returns-clause-there
returns-clause-there c =
    let word = c.args.word.now in
    let known = map (λ one. one.now) c.args.known.now in (
      λ found. Contains-from_any {eq = λ a b. bytes_eq b a} (λ x y same. sym (same_text y x (sym same))) word known (sym (returns-clause-test c) ∙ found),
      λ there. returns-clause-test c ∙ list_any_at (λ one. bytes_eq one word) known there.0 word there.1 (ap (λ one. bytes_eq one word) there.2 ∙ same_self word),
    )
