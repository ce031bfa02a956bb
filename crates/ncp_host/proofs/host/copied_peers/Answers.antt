use Rattle.std.proofs.Common.{◌<◌, ◌≤◌, List, [], ◌∷◌, ◌++◌, length, take, sym, ap, ◌∙◌, arith}
use Rattle.std.proofs.lemmas.List.{take_more, take_all}
use Rattle.ncp_peer.specs.PeerState.{PeerState}
use Rattle.ncp_host.proofs.host.copied_peers.Goals as goal

pub loop-place-preserved : goal.loop-place-preserved
loop-place-preserved g c =
    let inside : c.loop-place.place < length c.args.peers.now = omega arith in
    record {
      copied = c.push_reserved.ensures.items
          ∙ ap (λ (ss : List PeerState). ss ++ c.in_ok-copy.field-0 ∷ []) c.loop-place.invariant.copied
          ∙ ap (λ (s : PeerState). take c.loop-place.place c.args.peers.now ++ s ∷ []) (c.in_ok-copy.ensures ∙ c.index-peers-place.is)
          ∙ sym (take_more c.args.peers.now c.loop-place.place c.index-peers-place.result inside);
      len = omega (arith, c.push_reserved.ensures.len, c.loop-place.invariant.len);
      capacity = c.push_reserved.ensures.capacity ∙ c.loop-place.invariant.capacity;
    }

pub returns : goal.returns
returns g c =
    let all : length c.args.peers.now ≤ c.loop-place.place = omega arith in
    c.into_boxed_slice.ensures.items ∙ c.loop-place.invariant.copied ∙ take_all c.loop-place.place c.args.peers.now all
