-- The words of the usages so far stand behind those that were there.
use Rattle.std.proofs.Common.{◌≡◌, ◌++◌, map, take}
use Rattle.ncp_play_explain.proofs.usage.add_words.Given as goal

abbrev pub invariant-loop-usage : goal.invariant-loop-usage
invariant-loop-usage l = l.words.items ≡ l.initial.words.items ++ map (λ usage. usage.0) (take l.usage-index l.usages)
