use Rattle.std.proofs.Common.{◌≡◌}
use Rattle.ncp_peer.proofs.peer.Peer.pass_over_empty.Given as goal

abbrev pub invariant-loop-link : goal.invariant-loop-link
invariant-loop-link g l = l.self ≡ l.fn.self
