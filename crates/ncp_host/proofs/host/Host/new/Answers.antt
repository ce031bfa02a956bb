use Rattle.std.proofs.Common.{◌≡◌, ℕ, List, ◌++◌, sym, ap, ◌∙◌}
use Rattle.std.specs.Box.{boxed_slice_items}
use Rattle.std.specs.List.{zip}
use Rattle.ncp_peer.specs.PeerState.{PeerState, new_state}
use Rattle.ncp_host.specs.Host.{Host}
use Rattle.ncp_host.specs.Ignoring.{none_ignored}
use Rattle.ncp_host.proofs.Peering.{new_beside}
use Rattle.ncp_host.proofs.Living.{new_kept}
use Rattle.ncp_host.proofs.host.Host.new.Goals as goal

pub returns-in-Ok-clause-new : goal.returns-in-Ok-clause-new
returns-in-Ok-clause-new g c =
    let extended : c.try_extend_from_slice.new.self.items ≡ c.new-numbers.result.items ++ c.args.peers.now = rw c.unwrap.ensures at c.try_extend_from_slice.ensures.ok in
    let is : c.try_extend_from_slice.new.self.items ≡ c.args.peers.now = extended ∙ ap (λ (ns : List ℕ). ns ++ c.args.peers.now) c.new-numbers.ensures in
    let with_peers : List (ℕ × PeerState) → Host = λ ps. record { me = c.args.me; peers = ps; ignored = none_ignored } in
    ap (λ i. record { me = c.args.me; peers = zip c.try_extend_from_slice.new.self.items (boxed_slice_items c.in-Ok.peers); ignored = i }) c.none.ensures
    ∙ ap (λ (ns : List ℕ). with_peers (zip ns (boxed_slice_items c.in-Ok.peers))) is
    ∙ ap (λ (ss : List PeerState). with_peers (zip c.args.peers.now ss)) c.in-Ok.ensures
    ∙ ap with_peers (new_beside c.args.peers.now new_state)

-- what is true of a host is true of a new one
pub invariant_of-result : goal.invariant_of-result
invariant_of-result g c =
    let extended : c.try_extend_from_slice.new.self.items ≡ c.new-numbers.result.items ++ c.args.peers.now = rw c.unwrap.ensures at c.try_extend_from_slice.ensures.ok in
    let is : c.try_extend_from_slice.new.self.items ≡ c.args.peers.now = extended ∙ ap (λ (ns : List ℕ). ns ++ c.args.peers.now) c.new-numbers.ensures in
    new_kept c.args.me c.args.peers.now c.try_extend_from_slice.new.self.items (boxed_slice_items c.in-Ok.peers) (sym c.are_peers.ensures ∙ c.if-not-are_peers.false) is c.in-Ok.ensures
