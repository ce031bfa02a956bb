use Rattle.std.proofs.Common.{◌≡◌, take}
use Rattle.std.specs.List.{fold}
use Rattle.ncp_monitor.specs.Resets.{doubting_sender}
use Rattle.ncp_monitor.proofs.host_pairs.HostPairs.add_senders.Given as goal

abbrev pub invariant-loop-one : goal.invariant-loop-one
invariant-loop-one l = l.self ≡ fold (doubting_sender l.at) l.initial.self (take l.one-index l.kept)
