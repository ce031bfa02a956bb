-- The words of the tables so far.
use Rattle.std.proofs.Common.{◌≡◌, map, take}
use Rattle.std.specs.List.{flat_map}
use Rattle.ncp_play_explain.specs.Verbs.{all_verb_words}
use Rattle.ncp_play_explain.proofs.usage.verbs.Given as goal

abbrev pub invariant-loop-usages : goal.invariant-loop-usages
invariant-loop-usages l = record {
  known : flat_map (λ usages. map (λ usage. usage.0.now) usages.now) l.usages-items ≡ all_verb_words;
  words : map (λ word. word.now) l.words.items ≡ flat_map (λ usages. map (λ usage. usage.0.now) usages.now) (take l.usages-index l.usages-items);
}
