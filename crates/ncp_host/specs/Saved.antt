-- A host as bytes, for a user who saves it: all that contracts see of it, in one order. The layout is
-- this project's own (its profile): eight bytes that name it, a version byte, and then the host.
use Rattle.std.specs.Prelude.{◌≡◌, ℕ, List, [], ◌∷◌, ◌++◌}
use Rattle.std.specs.List.{All as Each, AllZip}
use Rattle.ncp_slot.specs.Links.{HasItsLinks}
use Rattle.ncp_host.specs.declared.ignored.Ignored.{Ignored}
use Rattle.ncp_peer.specs.PeerState.{PeerState}
use Rattle.ncp_host.specs.Host.{Host, numbers_of}
use Rattle.ncp_saved.specs.Values.{four_bytes, listed}
use Rattle.ncp_peer.specs.SavedPeer.{state_saved, AreAlike}

unfoldable pub ignored_saved : Ignored → List ℕ
ignored_saved n = four_bytes n.short ++ four_bytes n.other ++ four_bytes n.unknown

-- a peer: its number, and its state
unfoldable pub peer_saved : ℕ × PeerState → List ℕ
peer_saved p = p.0 ∷ state_saved p.1

-- "NCP host"
abbrev pub file_name : List ℕ
file_name = 78 ∷ 67 ∷ 80 ∷ 32 ∷ 104 ∷ 111 ∷ 115 ∷ 116 ∷ []

abbrev pub file_version : ℕ
file_version = 1

unfoldable pub saved : Host → List ℕ
saved h = file_name ++ file_version ∷ h.me ∷ ignored_saved h.ignored ++ listed peer_saved h.peers

pub record AreAlikeHosts (one other : Host) : Type 0 where
  pub me : one.me ≡ other.me
  pub numbers : numbers_of one.peers ≡ numbers_of other.peers
  pub peers : AllZip (λ (p q : ℕ × PeerState). AreAlike p.1 q.1) one.peers other.peers
  pub ignored : one.ignored ≡ other.ignored

-- the slots of each peer belong to exactly the links that have one
abbrev pub HaveTheirLinks : List (ℕ × PeerState) → Type 0
HaveTheirLinks ps = Each (λ (p : ℕ × PeerState). HasItsLinks p.1.slots) ps
