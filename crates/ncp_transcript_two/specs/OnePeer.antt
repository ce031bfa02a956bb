-- A host with one peer, of this number.
use Rattle.std.specs.Prelude.{ℕ, [], ◌∷◌}
use Rattle.ncp_host.specs.declared.ignored.Ignored.{Ignored}
use Rattle.ncp_peer.specs.PeerState.{PeerState}
use Rattle.ncp_host.specs.Host.{Host}

abbrev pub one_peer : ℕ → ℕ → Ignored → PeerState → Host
one_peer me number ignored s = record { me = me; peers = (number, s) ∷ []; ignored = ignored }
