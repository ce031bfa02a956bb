-- Whether a word has the number is whether one that is left has it.
use Rattle.std.proofs.Common.{◌≡◌, drop, map}
use Rattle.ncp_play_explain.specs.Hosts.{is_named}
use Rattle.ncp_play_explain.proofs.first_line.is_named.Given as goal

abbrev pub invariant-loop-other : goal.invariant-loop-other
invariant-loop-other l = is_named l.word (map (λ word. word.now) l.named) ≡ is_named l.word (map (λ word. word.now) (drop l.other-index l.named))
