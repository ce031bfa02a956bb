use Rattle.std.proofs.Common.{◌≡◌, ◌++◌, drop}
use Rattle.std.specs.List.{zip}
use Rattle.ncp_saved.specs.Values.{listed}
use Rattle.ncp_host.specs.Saved.{peer_saved}
use Rattle.ncp_host.proofs.host.saving.put_peers.Given as goal

-- what is written, and what is left to be written
abbrev pub invariant-loop-place : goal.invariant-loop-place
invariant-loop-place g l = l.out.items ++ listed peer_saved (drop l.place (zip l.numbers l.peers)) ≡ l.initial.out.items ++ listed peer_saved (zip l.numbers l.peers)
