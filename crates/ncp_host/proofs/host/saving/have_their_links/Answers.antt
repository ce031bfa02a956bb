use Rattle.std.proofs.Common.{◌≡◌, ◌≤◌, ◌<◌, List, [], ◌∷◌, ◌++◌, ◌+◌, length, take, sym, ap, ◌∙◌, subst, arith}
use Rattle.std.specs.List.{All}
use Rattle.std.proofs.lemmas.List.{take_more, take_all}
use Rattle.std.proofs.lemmas.List.Elements.{All-append}
use Rattle.ncp_slot.specs.Links.{HasItsLinks}
use Rattle.ncp_peer.specs.PeerState.{PeerState}
use Rattle.ncp_host.proofs.Linked.{alone}
use Rattle.ncp_host.proofs.host.saving.have_their_links.Goals as goal

pub loop-place-preserved : goal.loop-place-preserved
loop-place-preserved g c =
    let inside : c.loop-place.place < length c.args.peers.now = omega arith in
    let here : HasItsLinks c.index-peers-place.result.slots = c.has_its_links.ensures in
    let longer : take c.loop-place.place c.args.peers.now ++ c.index-peers-place.result ∷ [] ≡ take (c.loop-place.place + 1) c.args.peers.now = ap (λ (s : PeerState). take c.loop-place.place c.args.peers.now ++ s ∷ []) c.index-peers-place.is ∙ sym (take_more c.args.peers.now c.loop-place.place c.index-peers-place.result inside) in
    subst (λ (ss : List PeerState). All (λ (s : PeerState). HasItsLinks s.slots) ss) longer (All-append (λ (s : PeerState). HasItsLinks s.slots) (take c.loop-place.place c.args.peers.now) (c.index-peers-place.result ∷ []) c.loop-place.invariant (alone c.index-peers-place.result here))

pub returns : goal.returns
returns g c =
    let all : length c.args.peers.now ≤ c.loop-place.place = omega arith in
    subst (λ (ss : List PeerState). All (λ (s : PeerState). HasItsLinks s.slots) ss) (take_all c.loop-place.place c.args.peers.now all) c.loop-place.invariant
