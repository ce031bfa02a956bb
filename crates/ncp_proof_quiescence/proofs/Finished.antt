-- Where nothing can happen after a transcript, all is finished.
use Rattle.std.proofs.Common.{◌≡◌, ℕ, ◌==◌, Bool, true, false, List, nat_le, length, Ok, refl, sym, ap, ◌∙◌, subst, arith}
use Rattle.std.specs.FinMap.{get}
use Rattle.std.proofs.lemmas.Bool.{eqb-true}
use Rattle.ncp_slot.specs.declared.slot.Slot.{Slot}
use Rattle.ncp_slot.specs.Slots.{HasSlot, slot_at}
use Rattle.ncp_model.specs.declared.pair.Pair.{Pair}
use Rattle.ncp_model.specs.Pairs.{counterpart}
use Rattle.ncp_model.specs.Effect.{is_data_link}
use Rattle.ncp_wire.specs.declared.command.Command.{Command}
use Rattle.ncp_model.specs.declared.limits.TheConstants.{MAX_CALLED}
use Rattle.ncp_model.specs.Phase.{up, reset_answer}
use Rattle.ncp_model.specs.Sending.{is_full}
use Rattle.ncp_model.specs.Peers.{Peer}
use Rattle.ncp_proof_machine.specs.Hosts.{Node, Pasts, peer_of, past_of, TwoNodes, run}
use Rattle.ncp_peer.specs.PeerState.{PeerState}
use Rattle.ncp_transcript_two.specs.Subnet.{TransitByLink}
use Rattle.ncp_transcript_two.specs.World.{World}
use Rattle.ncp_transcript_two.specs.Tie.{Represents}
use Rattle.ncp_transcript_two.specs.declared.note.Note.{Note}
use Rattle.ncp_transcript_two.specs.Between.{Hosts}
use Rattle.ncp_transcript_two.specs.Transcript.{IsTranscript}
use Rattle.ncp_transcript_two.specs.Seen.{seen}
use Rattle.ncp_transcript_two.specs.OfRules.{histories_of}
use Rattle.ncp_transcript_two.proofs.Headlines.{of-model}
use Rattle.ncp_proof_progress.specs.Finished.{EndQuiescentAt, IsAtRest, PairFinished}
use Rattle.ncp_proof_progress.proofs.PairsFinished.{ever-finished}
use Rattle.ncp_proof_quiescence.specs.Settled.{IsStill, HasNothingLeft, EndsFinished}
use Rattle.ncp_proof_quiescence.proofs.OfModel.{Quiet, quiet-one, settled-of}

data-link : (on : ℕ) → HasSlot on → (on == 0) ≡ false → is_data_link on ≡ true
data-link on h z = let a = h.0 in let b = h.1 in grind (arith, a, b, z)

nothing-left : (there : ℕ) (n : Node) (s : PeerState) (u : TransitByLink) → Represents there n s u → IsStill there s u → IsAtRest n → HasNothingLeft s
nothing-left there n s u k q r = record {
  slots = λ on h. go on h (on == 0) refl;
  waiting = ap (λ (p : Peer). p.phase.waiting) k.peer ∙ r.idle.waiting;
  want = ap (λ (p : Peer). p.phase.want) k.peer ∙ r.idle.want;
  owe = ap (λ (p : Peer). p.phase.owe) k.peer ∙ r.idle.owe;
  wait = ap (λ (p : Peer). p.phase.wait) k.peer ∙ r.wait;
  down = λ d. ap (λ (p : Peer). p.ends) k.peer ∙ r.down (sym (ap (λ (p : Peer). p.phase.down) k.peer) ∙ d);
  echo = λ d. ap (λ (p : Peer). p.echoes.awaited) k.peer ∙ r.echo (sym (ap (λ (p : Peer). p.phase.down) k.peer) ∙ d);
  ends = λ pair. subst (λ (p : Peer). EndQuiescentAt pair (get p.ends pair)) (sym k.peer) (r.ends pair);
}
  where
    quiet : Quiet n s
    quiet = quiet-one there n s u k q

    go : (on : ℕ) → HasSlot on → (b : Bool) → (on == 0) ≡ b → slot_at s.slots on ≡ Slot.Empty
    go on h true z = ap (λ (i : ℕ). slot_at s.slots i) (eqb-true on 0 z) ∙ quiet.slot
    go on h false z = quiet.slots on (data-link on h z)

-- a pair of the model is that pair as it is seen
as-seen : (pair : Pair) (n m : Node) (s t : PeerState) (p q : Pasts) → s.peer ≡ peer_of n → t.peer ≡ peer_of m → n.pasts ≡ p → m.pasts ≡ q
    → PairFinished pair (get n.ends pair) (get m.ends (counterpart pair)) (past_of n.pasts pair).given (past_of m.pasts (counterpart pair)).got
    → PairFinished pair (get s.peer.ends pair) (get t.peer.ends (counterpart pair)) (past_of p pair).given (past_of q (counterpart pair)).got
as-seen pair n m s t p q a b c d f =
    subst (λ (x : Peer). PairFinished pair (get x.ends pair) (get t.peer.ends (counterpart pair)) (past_of p pair).given (past_of q (counterpart pair)).got) (sym a)
    (subst (λ (x : Peer). PairFinished pair (get n.ends pair) (get x.ends (counterpart pair)) (past_of p pair).given (past_of q (counterpart pair)).got) (sym b)
    (subst (λ (x : Pasts). PairFinished pair (get n.ends pair) (get m.ends (counterpart pair)) (past_of x pair).given (past_of q (counterpart pair)).got) c
    (subst (λ (x : Pasts). PairFinished pair (get n.ends pair) (get m.ends (counterpart pair)) (past_of n.pasts pair).given (past_of x (counterpart pair)).got) d f)))

pub ends-finished : (ns : List Note) (w : Hosts) → IsTranscript ns w → EndsFinished ns w
ends-finished ns w t q =
    let m = of-model ns w t in
    let x : TwoNodes = run m.0 in
    let v : World = seen w in
    let f = ever-finished m.0 (settled-of x v m.1 q) in
    record {
      this = nothing-left v.there x.this v.this v.going m.1.this q.0 f.this;
      that = nothing-left v.here x.that v.that v.coming m.1.that q.1 f.that;
      pairs = λ a b pair s.
          let g = f.pairs (sym (ap (λ (p : Peer). up p.phase) m.1.this.peer) ∙ a) (sym (ap (λ (p : Peer). up p.phase) m.1.that.peer) ∙ b) pair s in (
            as-seen pair x.this x.that v.this v.that (histories_of ns w).this (histories_of ns w).that m.1.this.peer m.1.that.peer m.2 m.3 g.0,
            as-seen pair x.that x.this v.that v.this (histories_of ns w).that (histories_of ns w).this m.1.that.peer m.1.this.peer m.3 m.2 g.1,
          );
    }

-- no call is refused then as busy, or since the queue is full

pub not-resetting : (s : PeerState) → HasNothingLeft s → reset_answer s.peer.phase ≡ Ok tt
not-resetting s k = rw (k.want, k.wait) refl

pub not-full : (s : PeerState) → HasNothingLeft s → is_full s.peer.phase ≡ false
not-full s k = ap (λ (cs : List Command). nat_le MAX_CALLED (length cs)) k.waiting
