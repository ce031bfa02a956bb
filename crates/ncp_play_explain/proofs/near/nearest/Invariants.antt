-- With fewer wrong letters no word is near.
use Rattle.std.proofs.Common.{ℕ, ◌<◌, map}
use Rattle.ncp_play_explain.specs.Near.{NoneIsNear}
use Rattle.ncp_play_explain.proofs.near.nearest.Given as goal

abbrev pub invariant-loop-most : goal.invariant-loop-most
invariant-loop-most l = (fewer : ℕ) → fewer < l.most → NoneIsNear fewer l.word (map (λ one. one.now) l.known)
