use Rattle.std.proofs.Common.{◌≡◌, ◌≤◌, ◌++◌, ℕ, List, All, length}
use Rattle.std.specs.List.{zip}
use Rattle.ncp_saved.specs.Values.{listed}
use Rattle.ncp_peer.specs.PeerState.{PeerState}
use Rattle.ncp_peer.specs.Soundness.{AreWell}
use Rattle.ncp_peer.proofs.ListRead.{IsAt}
use Rattle.ncp_host.specs.declared.limits.TheConstants.{MAX_PEERS}
use Rattle.ncp_host.specs.Saved.{peer_saved}
use Rattle.ncp_host.specs.Holding.{KeepsItsLimits}
use Rattle.ncp_host.proofs.host.loading.read_peers.Given as goal

-- the numbers and the peers that are read, and those that are left
abbrev pub invariant-loop-place : goal.invariant-loop-place
invariant-loop-place g l = record {
  beside : length l.peers.items ≡ length l.numbers.items;
  well : AreWell (zip l.numbers.items l.peers.items);
  reads : (ps : List (ℕ × PeerState)) (rest : List ℕ) → length ps ≤ MAX_PEERS → All KeepsItsLimits ps → l.fn.reader ≡ listed peer_saved ps ++ rest → IsAt peer_saved ps rest l.reader l._place (λ done. zip l.numbers.items l.peers.items ≡ done);
}
