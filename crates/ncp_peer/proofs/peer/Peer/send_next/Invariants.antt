use Rattle.std.proofs.Common.{◌-◌, ◌≤◌}
use Rattle.ncp_peer.proofs.Outputs.{Passed}
use Rattle.ncp_peer.proofs.peer.Peer.send_next.Given as goal

abbrev pub invariant-loop-link : goal.invariant-loop-link
invariant-loop-link g l = record {
  passed : Passed l.number l.fn.self l.from l.self;
  low : 2 ≤ l.from;
  high : l.from ≤ 72;
}

abbrev pub decreases-loop-link : goal.decreases-loop-link
decreases-loop-link g l = 72 - l.from
