-- The first word that is no number is one of those that are left.
use Rattle.std.proofs.Common.{◌≡◌, drop, map}
use Rattle.ncp_play_explain.specs.Hosts.{no_number}
use Rattle.ncp_play_explain.proofs.first_line.no_number.Given as goal

abbrev pub invariant-loop-word : goal.invariant-loop-word
invariant-loop-word l = no_number (map (λ word. word.now) l.words) ≡ no_number (map (λ word. word.now) (drop l.word-index l.words))
