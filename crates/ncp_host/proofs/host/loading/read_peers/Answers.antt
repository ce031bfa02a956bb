use Rattle.std.proofs.Common.{◌≡◌, ℕ, ◌<◌, ◌++◌, ◌∷◌, [], List, Result, Ok, Err, IsOk, inl, inr, length, refl, ap, ap₂, ◌∙◌, arith}
use Rattle.std.specs.List.{zip}
use Rattle.std.proofs.lemmas.Result.{err_from_is_err_and}
use Rattle.ncp_saved.specs.Values.{listed}
use Rattle.ncp_saved.proofs.Rows.{next_within}
use Rattle.ncp_peer.specs.PeerState.{PeerState}
use Rattle.ncp_peer.specs.SavedPeer.{state_saved}
use Rattle.ncp_peer.proofs.Placed.{beside_more, well_more}
use Rattle.ncp_peer.proofs.Regrouped.{is_read, is_none}
use Rattle.ncp_peer.proofs.ListRead.{at_mark, at_next, at_most}
use Rattle.ncp_peer.proofs.TableRead.{next_has}
use Rattle.ncp_host.specs.Saved.{peer_saved}
use Rattle.ncp_host.specs.Holding.{KeepsItsLimits}
use Rattle.ncp_host.proofs.PeersRead.{zip_push, zip_long, peer_pieces}
use Rattle.ncp_host.proofs.host.loading.read_peers.Goals as goal

pub loop-place-preserved : goal.loop-place-preserved
loop-place-preserved g c = record {
  beside = beside_more c.loop-place.numbers.items c.try_push.new.self.items c.loop-place.peers.items c.push.new.self.items c.in_ok-number.number c.in_ok-peer.peer c.in-Ok.ensures.ok c.in-Ok-push.ensures.items c.loop-place.invariant.beside;
  well = well_more c.loop-place.numbers.items c.try_push.new.self.items c.loop-place.peers.items c.push.new.self.items c.in_ok-number.number c.in_ok-peer.peer c.in-Ok.ensures.ok c.in-Ok-push.ensures.items c.loop-place.invariant.beside c.loop-place.invariant.well c.in_ok-peer.ensures.well;
  reads = λ ps rest few each e.
      let at = c.loop-place.invariant.reads ps rest few each e in
      elim (at_mark peer_saved ps rest c.loop-place.reader c.mark.new.self c.loop-place._place _ c.mark.result at c.mark.ensures.reads) [
        | inl end ↦ absurd (let was = c.in_ok-mark.was in let is = end.0 in let yes = c.if-not-branch.false in cc)
        | inr more ↦
            let next = more.1 in
            let one = c.byte.ensures.reads next.next.0 (state_saved next.next.1 ++ (listed peer_saved next.others ++ rest)) (peer_pieces next.next c.mark.new.self (listed peer_saved next.others ++ rest) next.bytes) in
            let number : c.in_ok-number.number ≡ next.next.0 = (let was = c.in_ok-number.was in let is = one.0 in cc) in
            let two = is_read _ c.read_peer.result c.in_ok-peer.peer c.in_ok-peer.was (c.read_peer.ensures.reads next.next.1 (listed peer_saved next.others ++ rest) (next_has KeepsItsLimits ps at.done next.others next.next each next.joined) one.1) in
            at_next peer_saved ps rest c.loop-place.reader c.mark.new.self c.read_peer.new.reader c.loop-place._place _ _ at next two.1
            (
            ap₂ (λ (ns : List ℕ) (ss : List PeerState). zip ns ss) c.in-Ok.ensures.ok c.in-Ok-push.ensures.items
            ∙ zip_push c.loop-place.numbers.items c.loop-place.peers.items c.in_ok-number.number c.in_ok-peer.peer c.loop-place.invariant.beside
            ∙ (λ i. at.holds i ++ (number i, two.0 i) ∷ [])
            )
      ];
}

pub returns-in_err-mark-clause-reads : goal.returns-in_err-mark-clause-reads
returns-in_err-mark-clause-reads g c = λ ps rest few each e.
    elim (at_mark peer_saved ps rest c.loop-place.reader c.mark.new.self c.loop-place._place _ c.mark.result (c.loop-place.invariant.reads ps rest few each e) c.mark.ensures.reads) [
      | inl end ↦ absurd (let was = c.in_err-mark.was in let is = end.0 in cc)
      | inr more ↦ absurd (let was = c.in_err-mark.was in let is = more.0 in cc)
    ]

pub returns-then-not-branch-clause-reads : goal.returns-then-not-branch-clause-reads
returns-then-not-branch-clause-reads g c = λ ps rest few each e.
    let at = c.loop-place.invariant.reads ps rest few each e in
    elim (at_mark peer_saved ps rest c.loop-place.reader c.mark.new.self c.loop-place._place _ c.mark.result at c.mark.ensures.reads) [
      | inl end ↦ (ap (λ (ss : List PeerState). zip c.loop-place.numbers.items ss) c.into_boxed_slice.ensures.items ∙ at.holds ∙ end.1, end.2)
      | inr more ↦ absurd (let was = c.in_ok-mark.was in let is = more.0 in let no = c.if-not-branch.true in cc)
    ]

pub returns-in_err-number-clause-reads : goal.returns-in_err-number-clause-reads
returns-in_err-number-clause-reads g c = λ ps rest few each e.
    let at = c.loop-place.invariant.reads ps rest few each e in
    elim (at_mark peer_saved ps rest c.loop-place.reader c.mark.new.self c.loop-place._place _ c.mark.result at c.mark.ensures.reads) [
      | inl end ↦ absurd (let was = c.in_ok-mark.was in let is = end.0 in let yes = c.if-not-branch.false in cc)
      | inr more ↦
          let next = more.1 in
          absurd (let one = c.byte.ensures.reads next.next.0 (state_saved next.next.1 ++ (listed peer_saved next.others ++ rest)) (peer_pieces next.next c.mark.new.self (listed peer_saved next.others ++ rest) next.bytes) in let was = c.in_err-number.was in cc)
    ]

pub returns-in_err-peer-clause-reads : goal.returns-in_err-peer-clause-reads
returns-in_err-peer-clause-reads g c = λ ps rest few each e.
    let at = c.loop-place.invariant.reads ps rest few each e in
    elim (at_mark peer_saved ps rest c.loop-place.reader c.mark.new.self c.loop-place._place _ c.mark.result at c.mark.ensures.reads) [
      | inl end ↦ absurd (let was = c.in_ok-mark.was in let is = end.0 in let yes = c.if-not-branch.false in cc)
      | inr more ↦
          let next = more.1 in
          let one = c.byte.ensures.reads next.next.0 (state_saved next.next.1 ++ (listed peer_saved next.others ++ rest)) (peer_pieces next.next c.mark.new.self (listed peer_saved next.others ++ rest) next.bytes) in
          let two = c.read_peer.ensures.reads next.next.1 (listed peer_saved next.others ++ rest) (next_has KeepsItsLimits ps at.done next.others next.next each next.joined) one.1 in
          let from = err_from_is_err_and c.from_residual-in_err-peer.result c.from_residual-in_err-peer.ensures.1 in
          rw (from.1, from.2) (is_none _ c.read_peer.result c.in_err-peer.field-0.0 c.in_err-peer.was two)
    ]

no_ok : {A E : Type 0} (r : Result A E) → IsOk r → ((x : A) → r ≡ Ok x → ⊥) → ⊥
no_ok (Ok x) is not_ok = not_ok x refl
no_ok (Err e) is not_ok = absurd (cc)

pub returns-in_default-clause-reads : goal.returns-in_default-clause-reads
returns-in_default-clause-reads g c = λ ps rest few each e.
    let at = c.loop-place.invariant.reads ps rest few each e in
    elim (at_mark peer_saved ps rest c.loop-place.reader c.mark.new.self c.loop-place._place _ c.mark.result at c.mark.ensures.reads) [
      | inl end ↦ absurd (let was = c.in_ok-mark.was in let is = end.0 in let yes = c.if-not-branch.false in cc)
      | inr more ↦
          let within = next_within peer_saved ps at.done rest c.mark.new.self more.1 in
          let long = ap (λ (qs : List (ℕ × PeerState)). length qs) at.holds in
          let beside = zip_long c.loop-place.numbers.items c.loop-place.peers.items c.loop-place.invariant.beside in
          let room : length c.loop-place.numbers.items < 8 = omega (arith, within, long, beside, few) in
          absurd (no_ok c.try_push.result (c.try_push.ensures.variant.1 room) c.in_default.not-Ok)
    ]

pub returns-clause-reads : goal.returns-clause-reads
returns-clause-reads g c = λ ps rest few each e.
    let most = at_most peer_saved ps rest c.loop-place.reader c.loop-place._place _ (c.loop-place.invariant.reads ps rest few each e) in
    absurd (let n = c.loop-place-test.false in omega (arith, most, n, few))
