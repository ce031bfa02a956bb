-- No word that was looked at is near.
use Rattle.std.proofs.Common.{map, take}
use Rattle.ncp_play_explain.specs.Near.{NoneIsNear}
use Rattle.ncp_play_explain.proofs.near.first_near.Given as goal

abbrev pub invariant-loop-candidate : goal.invariant-loop-candidate
invariant-loop-candidate l = NoneIsNear l.most l.word (take l.candidate-index (map (λ one. one.now) l.known))
