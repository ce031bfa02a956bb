use Rattle.std.proofs.Common.{◌≡◌, ◌++◌, drop}
use Rattle.std.specs.FinMap.{entries}
use Rattle.ncp_saved.specs.Values.{listed}
use Rattle.ncp_peer.specs.SavedPeer.{connection_saved}
use Rattle.ncp_peer.proofs.association.saving.put_connections.Given as goal

-- what is written, and what is left to be written
abbrev pub invariant-loop-place : goal.invariant-loop-place
invariant-loop-place g l = l.out.items ++ listed connection_saved (drop l.place (entries l.table)) ≡ l.initial.out.items ++ listed connection_saved (entries l.table)
