-- The first word of no host is one of those that are left.
use Rattle.std.proofs.Common.{◌≡◌, drop, map}
use Rattle.ncp_play_explain.specs.Hosts.{no_host}
use Rattle.ncp_play_explain.proofs.first_line.no_host.Given as goal

abbrev pub invariant-loop-word : goal.invariant-loop-word
invariant-loop-word l = no_host (map (λ word. word.now) l.named) (map (λ word. word.now) l.words) ≡ no_host (map (λ word. word.now) l.named) (map (λ word. word.now) (drop l.word-index l.words))
