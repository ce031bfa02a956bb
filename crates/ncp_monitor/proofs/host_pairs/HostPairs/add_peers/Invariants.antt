use Rattle.std.proofs.Common.{◌≡◌}
use Rattle.std.specs.List.{fold, range_with_len}
use Rattle.ncp_monitor.specs.Resets.{doubting_peer}
use Rattle.ncp_monitor.proofs.host_pairs.HostPairs.add_peers.Given as goal

abbrev pub invariant-loop-place : goal.invariant-loop-place
invariant-loop-place l = l.self ≡ fold (doubting_peer l.at l.views) l.initial.self (range_with_len 0 l.place)
