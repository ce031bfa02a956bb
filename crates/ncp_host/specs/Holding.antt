-- What holds of every host, so that the bytes saved of it are loaded again.
use Rattle.std.specs.Prelude.{◌≡◌, ℕ, true, All}
use Rattle.ncp_peer.specs.PeerState.{PeerState}
use Rattle.ncp_peer.specs.Loading.{FitsIn}
use Rattle.ncp_host.specs.Host.{Host, are_peers, numbers_of}

-- the state of a peer, next to its number, keeps its limits
abbrev pub KeepsItsLimits : ℕ × PeerState → Type 0
KeepsItsLimits p = FitsIn p.1

-- the peers are possible, and the state of each keeps its limits
pub record IsHost (h : Host) : Type 0 where
  pub peers : are_peers h.me (numbers_of h.peers) ≡ true
  pub each : All KeepsItsLimits h.peers
