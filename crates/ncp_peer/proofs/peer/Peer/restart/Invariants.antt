use Rattle.std.proofs.Common.{◌≡◌, ◌-◌}
use Rattle.std.specs.List.{range_with_len}
use Rattle.ncp_peer.specs.GivingUp.{gives_up_all, restarts}
use Rattle.ncp_peer.proofs.peer.Peer.restart.Given as goal

-- what is left to do does the rest
abbrev pub invariant-loop-link : goal.invariant-loop-link
invariant-loop-link g l = gives_up_all (range_with_len l.link (72 - l.link)) l.self ≡ restarts l.fn.self
