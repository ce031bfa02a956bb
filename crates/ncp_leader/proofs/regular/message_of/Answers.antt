use Rattle.std.proofs.Common.{arith}
use Rattle.ncp_leader.proofs.Leaders.{IsLeader-at}
use Rattle.ncp_leader.proofs.regular.message_of.Goals as goal

pub invariant_of-result : goal.invariant_of-result
invariant_of-result c = record {
  leader = rw c.leader_of.ensures (IsLeader-at c.args.part.now);
  some = omega arith;
  size = c.number-size.ensures.fits;
  count = c.number-count.ensures.fits;
  whole = rw (c.from.ensures, c.from-2.ensures) at c.slice.ensures.len;
}
