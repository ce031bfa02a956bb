use Rattle.std.proofs.Common.{List, subst}
use Rattle.std.specs.Box.{boxed_slice_items}
use Rattle.std.specs.List.{All}
use Rattle.ncp_slot.specs.Links.{HasItsLinks}
use Rattle.ncp_peer.specs.PeerState.{PeerState}
use Rattle.ncp_host.specs.Host.{Host}
use Rattle.ncp_host.specs.Saved.{HaveTheirLinks}
use Rattle.ncp_host.proofs.Linked.{linked_beside}
use Rattle.ncp_host.proofs.host.Host.has_its_links.Goals as goal

pub returns : goal.returns
returns g c =
    let all : All (λ (s : PeerState). HasItsLinks s.slots) (boxed_slice_items c.self.inside.peers) = subst (λ (ss : List PeerState). All (λ (s : PeerState). HasItsLinks s.slots) ss) c.deref.ensures.value c.have_their_links.ensures in
    subst (λ (h : Host). HaveTheirLinks h.peers) c.self.view_is (linked_beside c.self.inside.numbers.items (boxed_slice_items c.self.inside.peers) all)
