-- A word that is named again is one of those that are left.
use Rattle.std.proofs.Common.{◌≡◌, [], drop, map, take}
use Rattle.ncp_play_explain.specs.Hosts.{named_again}
use Rattle.ncp_play_explain.proofs.first_line.named_again.Given as goal

abbrev pub invariant-loop-place : goal.invariant-loop-place
invariant-loop-place l = named_again [] (map (λ word. word.now) l.words) ≡ named_again (take l.place (map (λ word. word.now) l.words)) (drop l.place (map (λ word. word.now) l.words))
