use Rattle.std.proofs.Common.{◌≡◌, ◌++◌, ℕ, List, sym, ap, ap₂, ◌∙◌}
use Rattle.std.specs.Box.{boxed_slice_items}
use Rattle.std.specs.List.{zip}
use Rattle.std.proofs.lemmas.Result.{err_from_is_err_and}
use Rattle.ncp_saved.specs.Values.{listed}
use Rattle.ncp_peer.proofs.Regrouped.{is_read, is_none}
use Rattle.ncp_host.specs.Host.{Host, are_peers, numbers_of}
use Rattle.ncp_host.specs.Saved.{ignored_saved, peer_saved}
use Rattle.ncp_host.proofs.PeersRead.{numbers_zip, few_peers}
use Rattle.ncp_host.proofs.host.loading.read_host.Goals as goal

pub returns-in_err-me : goal.returns-in_err-me
returns-in_err-me g c = record {
  reads = λ h rest is e. absurd (let one = c.byte.ensures.reads h.me (ignored_saved h.ignored ++ (listed peer_saved h.peers ++ rest)) e in let was = c.in_err-me.was in cc);
}

pub returns-in_err-ignored : goal.returns-in_err-ignored
returns-in_err-ignored g c = record {
  reads = λ h rest is e.
      let one = c.byte.ensures.reads h.me (ignored_saved h.ignored ++ (listed peer_saved h.peers ++ rest)) e in
      absurd (let two = c.read_ignored.ensures.reads h.ignored (listed peer_saved h.peers ++ rest) one.1 in let was = c.in_err-ignored.was in cc);
}

pub returns-in_err-peers : goal.returns-in_err-peers
returns-in_err-peers g c = record {
  reads = λ h rest is e.
      let one = c.byte.ensures.reads h.me (ignored_saved h.ignored ++ (listed peer_saved h.peers ++ rest)) e in
      let two = c.read_ignored.ensures.reads h.ignored (listed peer_saved h.peers ++ rest) one.1 in
      let three = c.read_peers.ensures.reads h.peers rest (few_peers h.me h.peers is.peers) is.each two.1 in
      let from = err_from_is_err_and c.from_residual-in_err-peers.result c.from_residual-in_err-peers.ensures.1 in
      rw (from.1, from.2) (is_none _ c.read_peers.result c.in_err-peers.field-0.0 c.in_err-peers.was three);
}

pub returns-in-Some : goal.returns-in-Some
returns-in-Some g c = record {
  reads = λ h rest is e.
      let one = c.byte.ensures.reads h.me (ignored_saved h.ignored ++ (listed peer_saved h.peers ++ rest)) e in
      let two = c.read_ignored.ensures.reads h.ignored (listed peer_saved h.peers ++ rest) one.1 in
      let three = is_read _ c.read_peers.result c.in_ok-peers.peers c.in_ok-peers.was (c.read_peers.ensures.reads h.peers rest (few_peers h.me h.peers is.peers) is.each two.1) in
      let me : c.in_ok-me.me ≡ h.me = (let was = c.in_ok-me.was in let r = one.0 in cc) in
      let ignored : c.in_ok-ignored.ignored ≡ h.ignored = (let was = c.in_ok-ignored.was in let r = two.0 in cc) in
      let numbers : c.in_ok-peers.peers.0.items ≡ numbers_of h.peers = sym (numbers_zip c.in_ok-peers.peers.0.items (boxed_slice_items c.in_ok-peers.peers.1) c.in_ok-peers.ensures.beside) ∙ ap numbers_of three.0 in
      let some = c.host_with.ensures.takes (ap₂ (λ (n : ℕ) (ns : List ℕ). are_peers n ns) me numbers ∙ is.peers) in
      let same : ◌≡◌ {A = Host} c.in-Some.host (record { me = c.in_ok-me.me; peers = zip c.in_ok-peers.peers.0.items (boxed_slice_items c.in_ok-peers.peers.1); ignored = c.in_ok-ignored.ignored }) = (let found = c.in-Some.is in cc) in
      (same ∙ (λ i. record { me = me i; peers = three.0 i; ignored = ignored i }), three.1);
}

pub returns-in-None : goal.returns-in-None
returns-in-None g c = record {
  reads = λ h rest is e.
      let one = c.byte.ensures.reads h.me (ignored_saved h.ignored ++ (listed peer_saved h.peers ++ rest)) e in
      let two = c.read_ignored.ensures.reads h.ignored (listed peer_saved h.peers ++ rest) one.1 in
      let three = is_read _ c.read_peers.result c.in_ok-peers.peers c.in_ok-peers.was (c.read_peers.ensures.reads h.peers rest (few_peers h.me h.peers is.peers) is.each two.1) in
      let me : c.in_ok-me.me ≡ h.me = (let was = c.in_ok-me.was in let r = one.0 in cc) in
      let numbers : c.in_ok-peers.peers.0.items ≡ numbers_of h.peers = sym (numbers_zip c.in_ok-peers.peers.0.items (boxed_slice_items c.in_ok-peers.peers.1) c.in_ok-peers.ensures.beside) ∙ ap numbers_of three.0 in
      absurd (let some = c.host_with.ensures.takes (ap₂ (λ (n : ℕ) (ns : List ℕ). are_peers n ns) me numbers ∙ is.peers) in let found = c.in-None.is in cc);
}
