use Rattle.std.proofs.Common.{◌≡◌, ◌++◌, ℕ, List}
use Rattle.std.specs.FinMap.{entries}
use Rattle.ncp_model.specs.Ends.{Ends, no_ends}
use Rattle.ncp_peer.specs.SavedPeer.{connection_saved, ends_saved}
use Rattle.ncp_peer.specs.Loading.{CanStand}
use Rattle.ncp_peer.proofs.ListRead.{IsAt}
use Rattle.ncp_peer.proofs.TableRead.{AreIn}
use Rattle.ncp_peer.proofs.reading.read_connections.Given as goal

-- the connections that are read are in the table, and the others are left
abbrev pub invariant-loop-place : goal.invariant-loop-place
invariant-loop-place g l =
    (m : Ends) (rest : List ℕ) → CanStand m → l.fn.table ≡ no_ends → l.fn.reader ≡ ends_saved m ++ rest → IsAt connection_saved (entries m) rest l.reader l._place (λ done. AreIn done l.table)
