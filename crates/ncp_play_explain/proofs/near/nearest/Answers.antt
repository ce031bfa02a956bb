-- With two wrong letters, or fewer.
use Rattle.std.proofs.Common.{arith}
use Rattle.ncp_play_explain.proofs.near.nearest.Goals as goal

pub returns-clause-none : goal.returns-clause-none
returns-clause-none c = c.loop-most.invariant 2 (omega arith)
