use Rattle.std.proofs.Common.{◌≡◌, ℕ, List, ◌++◌, sym, ap, ◌∙◌, subst}
use Rattle.std.specs.Box.{boxed_slice_items}
use Rattle.std.specs.List.{zip}
use Rattle.ncp_peer.specs.PeerState.{PeerState}
use Rattle.ncp_host.specs.Host.{Host}
use Rattle.ncp_host.specs.Running.{IsKept}
use Rattle.ncp_host.proofs.host.Host.copy.Goals as goal

pub returns : goal.returns
returns g c =
    let extended : c.try_extend_from_slice.new.self.items ≡ c.new-numbers.result.items ++ c.as_slice.result.now = rw c.unwrap.ensures at c.try_extend_from_slice.ensures.ok in
    let numbers : c.try_extend_from_slice.new.self.items ≡ c.self.inside.numbers.items = extended ∙ ap (λ (ns : List ℕ). ns ++ c.as_slice.result.now) c.new-numbers.ensures ∙ c.as_slice.ensures.value in
    let peers : boxed_slice_items c.in_ok-copied_peers.field-0 ≡ boxed_slice_items c.self.inside.peers = c.in_ok-copied_peers.ensures ∙ c.deref.ensures.value in
    record {
      same = ap (λ (ns : List ℕ). let h : Host = record { me = c.self.inside.me; peers = zip ns (boxed_slice_items c.in_ok-copied_peers.field-0); ignored = c.self.inside.ignored } in h) numbers
          ∙ ap (λ (ss : List PeerState). let h : Host = record { me = c.self.inside.me; peers = zip c.self.inside.numbers.items ss; ignored = c.self.inside.ignored } in h) peers
          ∙ c.self.view_is;
    }

-- what is true of the host is true of its copy
pub invariant_of-result : goal.invariant_of-result
invariant_of-result g c =
    let extended : c.try_extend_from_slice.new.self.items ≡ c.new-numbers.result.items ++ c.as_slice.result.now = rw c.unwrap.ensures at c.try_extend_from_slice.ensures.ok in
    let numbers : c.try_extend_from_slice.new.self.items ≡ c.self.inside.numbers.items = extended ∙ ap (λ (ns : List ℕ). ns ++ c.as_slice.result.now) c.new-numbers.ensures ∙ c.as_slice.ensures.value in
    let peers : boxed_slice_items c.in_ok-copied_peers.field-0 ≡ boxed_slice_items c.self.inside.peers = c.in_ok-copied_peers.ensures ∙ c.deref.ensures.value in
    subst (λ (ns : List ℕ). IsKept c.self.inside.me ns (boxed_slice_items c.in_ok-copied_peers.field-0)) (sym numbers)
    (subst (λ (ss : List PeerState). IsKept c.self.inside.me c.self.inside.numbers.items ss) (sym peers) c.self.invariant)
