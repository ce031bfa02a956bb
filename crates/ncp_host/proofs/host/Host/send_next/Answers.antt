use Rattle.std.proofs.Common.{◌≡◌, ◌<◌, ℕ, List, length, get_or, subst, ap, ◌∙◌}
use Rattle.std.specs.List.{zip}
use Rattle.std.specs.Box.{boxed_slice_items}
use Rattle.std.specs.Vec.{with_items}
use Rattle.std.proofs.lemmas.List.{with_items_is}
use Rattle.ncp_peer.specs.PeerState.{PeerState}
use Rattle.ncp_peer.specs.PeerCalls.{kept_for}
use Rattle.ncp_host.specs.Host.{Host, state_in}
use Rattle.ncp_peer.specs.Soundness.{AreWell}
use Rattle.ncp_host.specs.Turns.{message_in_turn, next_output}
use Rattle.ncp_host.proofs.FirstReady.{is_next}
use Rattle.ncp_host.proofs.Living.{sent}
use Rattle.ncp_host.proofs.Peering.{numbered, peers_distinct}
use Rattle.ncp_host.proofs.host.Host.send_next.Goals as goal

pub invariant_of-self : goal.invariant_of-self
invariant_of-self g c =
    sent c.self.inside.me c.self.inside.numbers.items (boxed_slice_items c.self.inside.peers) c.self.inside.ignored c.self.invariant
    c.as_slice.result.now c.deref_mut.result.now c.send_first.new.peers (with_items c.self.inside.peers.items c.send_first.new.peers).items c.as_slice.ensures.value c.deref_mut.ensures.value c.send_first.ensures.peers c.send_first.ensures.len
    (with_items_is c.self.inside.peers.items c.send_first.new.peers (c.send_first.ensures.len ∙ c.deref_mut.ensures.len))

pub returns-in_err-place-clause-first_ready : goal.returns-in_err-place-clause-first_ready
returns-in_err-place-clause-first_ready g c = is_next c.args.self.now.peers (subst (λ (h : Host). AreWell h.peers) c.self.view_is c.self.invariant.well)

pub invariant_of-self-2 : goal.invariant_of-self-2
invariant_of-self-2 g c =
    sent c.self.inside.me c.self.inside.numbers.items (boxed_slice_items c.self.inside.peers) c.self.inside.ignored c.self.invariant
    c.as_slice.result.now c.deref_mut.result.now c.send_first.new.peers (with_items c.self.inside.peers.items c.send_first.new.peers).items c.as_slice.ensures.value c.deref_mut.ensures.value c.send_first.ensures.peers c.send_first.ensures.len
    (with_items_is c.self.inside.peers.items c.send_first.new.peers (c.send_first.ensures.len ∙ c.deref_mut.ensures.len))

pub returns-clause-sent : goal.returns-clause-sent
returns-clause-sent g c =
    let new : List PeerState = c.send_first.new.peers in
    let same : (with_items c.self.inside.peers.items new).items ≡ new = with_items_is c.self.inside.peers.items new (c.send_first.ensures.len ∙ c.deref_mut.ensures.len) in
    let beside : length new ≡ length c.self.inside.numbers.items = c.send_first.ensures.len ∙ ap (λ (ss : List PeerState). length ss) c.deref_mut.ensures.value ∙ c.self.invariant.beside in
    let inside : c.in_ok-place.place < length c.self.inside.numbers.items = subst (λ (ns : List ℕ). c.in_ok-place.place < length ns) c.as_slice.ensures.value c.in_ok-place.ensures.inside in
    ap (λ (ns : List ℕ). kept_for (state_in (zip c.self.inside.numbers.items (with_items c.self.inside.peers.items new).items) (get_or ns c.in_ok-place.place 0)) c.in_ok-place.link) c.deref.ensures.0
    ∙ ap (λ (ss : List PeerState). kept_for (state_in (zip c.self.inside.numbers.items ss) (get_or c.self.inside.numbers.items c.in_ok-place.place 0)) c.in_ok-place.link) same
    ∙ ap (λ o. kept_for o c.in_ok-place.link) (numbered c.self.inside.numbers.items new c.in_ok-place.place 0 beside inside (peers_distinct c.self.inside.me c.self.inside.numbers.items c.self.invariant.peers))
    ∙ c.in_ok-place.ensures.sent
    ∙ ap (λ (ns : List ℕ). message_in_turn (zip ns c.deref_mut.result.now)) c.as_slice.ensures.value
    ∙ ap (λ (ss : List PeerState). message_in_turn (zip c.self.inside.numbers.items ss)) c.deref_mut.ensures.value
    ∙ ap next_output c.self.view_is

pub returns-clause-first_ready : goal.returns-clause-first_ready
returns-clause-first_ready g c = is_next c.args.self.now.peers (subst (λ (h : Host). AreWell h.peers) c.self.view_is c.self.invariant.well)
