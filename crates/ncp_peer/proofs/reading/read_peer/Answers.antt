use Rattle.std.proofs.Common.{◌≡◌, ◌++◌, ℕ, List, All, sym, ◌∙◌, subst}
use Rattle.std.proofs.lemmas.Result.{err_from_is_err_and}
use Rattle.ncp_slot.specs.Slots.{LinkSlots}
use Rattle.ncp_model.specs.Peers.{Peer}
use Rattle.ncp_peer.specs.PeerState.{PeerState}
use Rattle.ncp_peer.specs.SavedPeer.{slots_saved, counts_saved, state_saved}
use Rattle.ncp_peer.specs.SavedParts.{association_saved}
use Rattle.ncp_peer.specs.Soundness.{IsWell, Agree}
use Rattle.ncp_phase.specs.Waiting.{IsShort}
use Rattle.ncp_peer.proofs.Regrouped.{three_pieces, is_read, is_none}
use Rattle.ncp_peer.proofs.reading.read_peer.Goals as goal

pieces : (s : PeerState) (reader rest : List ℕ) → reader ≡ state_saved s ++ rest → reader ≡ association_saved s.peer ++ (slots_saved s.slots ++ (counts_saved s.counts ++ rest))
unfolding state_saved
pieces s reader rest e = e ∙ three_pieces (association_saved s.peer) (slots_saved s.slots) (counts_saved s.counts) rest

-- what was read agrees as the state did
agrees : (s : PeerState) (p : Peer) (slots : LinkSlots) → IsWell s → p ≡ s.peer → slots ≡ s.slots → Agree p.ends slots
agrees s p slots well one two = subst (λ (x : Peer × LinkSlots). Agree x.0.ends x.1) (λ i. (sym one i, sym two i)) well.0.ends

short : (s : PeerState) (p : Peer) → IsWell s → p ≡ s.peer → All IsShort p.phase.waiting
short s p well one = subst (λ (x : Peer). All IsShort x.phase.waiting) (sym one) well.1

pub returns-in_err-association-clause-reads : goal.returns-in_err-association-clause-reads
returns-in_err-association-clause-reads g c = λ s rest fit e.
    let first = c.read_association.ensures.reads s.peer (slots_saved s.slots ++ (counts_saved s.counts ++ rest)) fit.peer (pieces s c.args.reader.now rest e) in
    let from = err_from_is_err_and c.from_residual.result c.from_residual.ensures.1 in
    rw (from.1, from.2) (is_none _ c.read_association.result c.in_err-association.field-0.0 c.in_err-association.was first)

pub returns-in_err-slots-clause-reads : goal.returns-in_err-slots-clause-reads
returns-in_err-slots-clause-reads g c = λ s rest fit e.
    let first = is_read _ c.read_association.result c.in_ok-association.association c.in_ok-association.was (c.read_association.ensures.reads s.peer (slots_saved s.slots ++ (counts_saved s.counts ++ rest)) fit.peer (pieces s c.args.reader.now rest e)) in
    let second = c.read_slots.ensures.reads s.slots (counts_saved s.counts ++ rest) fit.slots first.1 in
    let from = err_from_is_err_and c.from_residual-in_err-slots.result c.from_residual-in_err-slots.ensures.1 in
    rw (from.1, from.2) (is_none _ c.read_slots.result c.in_err-slots.field-0.0 c.in_err-slots.was second)

pub returns-in_err-counts-clause-reads : goal.returns-in_err-counts-clause-reads
returns-in_err-counts-clause-reads g c = λ s rest fit e.
    let first = is_read _ c.read_association.result c.in_ok-association.association c.in_ok-association.was (c.read_association.ensures.reads s.peer (slots_saved s.slots ++ (counts_saved s.counts ++ rest)) fit.peer (pieces s c.args.reader.now rest e)) in
    let second = is_read _ c.read_slots.result c.in_ok-slots.slots c.in_ok-slots.was (c.read_slots.ensures.reads s.slots (counts_saved s.counts ++ rest) fit.slots first.1) in
    absurd (let read = c.read_counts.ensures.reads s.counts rest second.1 in let was = c.in_err-counts.was in cc)

pub returns-in_default-clause-reads : goal.returns-in_default-clause-reads
returns-in_default-clause-reads g c = λ s rest fit e.
    let first = is_read _ c.read_association.result c.in_ok-association.association c.in_ok-association.was (c.read_association.ensures.reads s.peer (slots_saved s.slots ++ (counts_saved s.counts ++ rest)) fit.peer (pieces s c.args.reader.now rest e)) in
    let second = is_read _ c.read_slots.result c.in_ok-slots.slots c.in_ok-slots.was (c.read_slots.ensures.reads s.slots (counts_saved s.counts ++ rest) fit.slots first.1) in
    let some = c.with.ensures.takes (agrees s c.in_ok-association.association c.in_ok-slots.slots fit.well first.0 second.0) c.has_its_links.ensures (short s c.in_ok-association.association fit.well first.0) in
    absurd (c.in_default.not-Some _ some)

pub returns : goal.returns
returns g c = record {
  well = subst (λ (s : PeerState). IsWell s) (sym c.pass_over_empty.ensures) c.in-Some.ensures.well;
  reads = λ s rest fit e.
      let first = is_read _ c.read_association.result c.in_ok-association.association c.in_ok-association.was (c.read_association.ensures.reads s.peer (slots_saved s.slots ++ (counts_saved s.counts ++ rest)) fit.peer (pieces s c.args.reader.now rest e)) in
      let second = is_read _ c.read_slots.result c.in_ok-slots.slots c.in_ok-slots.was (c.read_slots.ensures.reads s.slots (counts_saved s.counts ++ rest) fit.slots first.1) in
      let third = c.read_counts.ensures.reads s.counts rest second.1 in
      let counts : c.in_ok-counts.counts ≡ s.counts = (let was = c.in_ok-counts.was in let is = third.0 in cc) in
      let some = c.with.ensures.takes (agrees s c.in_ok-association.association c.in_ok-slots.slots fit.well first.0 second.0) c.has_its_links.ensures (short s c.in_ok-association.association fit.well first.0) in
      let same : ◌≡◌ {A = PeerState} c.in-Some.peer (record { peer = c.in_ok-association.association; slots = c.in_ok-slots.slots; counts = c.in_ok-counts.counts }) = (let is = c.in-Some.is in cc) in
      (c.pass_over_empty.ensures ∙ same ∙ (λ i. record { peer = first.0 i; slots = second.0 i; counts = counts i }), third.1);
}
