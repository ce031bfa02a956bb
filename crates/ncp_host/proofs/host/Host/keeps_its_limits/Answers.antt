use Rattle.std.proofs.Common.{List, ap, ◌∙◌, subst}
use Rattle.std.specs.Box.{boxed_slice_items}
use Rattle.std.specs.List.{All}
use Rattle.ncp_peer.specs.PeerState.{PeerState}
use Rattle.ncp_peer.specs.Soundness.{IsWell}
use Rattle.ncp_peer.specs.Loading.{FitsIn}
use Rattle.ncp_host.specs.Host.{are_peers}
use Rattle.ncp_host.specs.Holding.{IsHost}
use Rattle.ncp_host.proofs.PeersRead.{numbers_zip, fit_beside}
use Rattle.ncp_host.proofs.host.Host.keeps_its_limits.Goals as goal

pub returns : goal.returns
returns g c =
    let all : All (λ (s : PeerState). IsWell s → FitsIn s) (boxed_slice_items c.self.inside.peers) = subst (λ (ss : List PeerState). All (λ (s : PeerState). IsWell s → FitsIn s) ss) c.deref.ensures.value c.keep_their_limits.ensures in
    subst IsHost c.self.view_is (record {
      peers = ap (are_peers c.self.inside.me) (numbers_zip c.self.inside.numbers.items (boxed_slice_items c.self.inside.peers) c.self.invariant.beside) ∙ c.self.invariant.peers;
      each = fit_beside c.self.inside.numbers.items (boxed_slice_items c.self.inside.peers) all c.self.invariant.well;
    })
