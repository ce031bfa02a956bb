-- What is left at a host of a transcript waits for something.
use Rattle.std.proofs.Common.{ℕ, List, sym, ap, ◌∙◌, subst}
use Rattle.std.specs.FinMap.{get}
use Rattle.ncp_model.specs.declared.pair.Pair.{Pair}
use Rattle.ncp_model.specs.Peers.{Peer}
use Rattle.ncp_proof_machine.specs.Hosts.{Node, quiet, run}
use Rattle.ncp_peer.specs.PeerState.{PeerState}
use Rattle.ncp_transcript_two.specs.Subnet.{TransitByLink}
use Rattle.ncp_transcript_two.specs.Tie.{Represents}
use Rattle.ncp_transcript_two.specs.declared.note.Note.{Note}
use Rattle.ncp_transcript_two.specs.Between.{Hosts}
use Rattle.ncp_transcript_two.specs.Transcript.{IsTranscript}
use Rattle.ncp_transcript_two.specs.Seen.{seen}
use Rattle.ncp_transcript_two.proofs.Ties.{quiet-is}
use Rattle.ncp_transcript_two.proofs.Headlines.{of-model}
use Rattle.ncp_proof_progress.specs.Idle.{LeavingAt, ResetsWait}
use Rattle.ncp_proof_progress.proofs.LeavingEnds.{leaving-ever}
use Rattle.ncp_proof_progress.proofs.ResetsWait.{ever-wait}
use Rattle.ncp_proof_quiescence.specs.Resting.{LeftWaits}

one : (there : ℕ) (n : Node) (s : PeerState) (u : TransitByLink) → Represents there n s u → ResetsWait n → ((pair : Pair) → LeavingAt pair (get n.ends pair)) → LeftWaits s
one there n s u k r l = record {
  want = λ e. ap (λ (p : Peer). p.phase.want) k.peer ∙ r.want (sym (quiet-is there n.texts s.slots u k.texts) ∙ e);
  owe = λ e. ap (λ (p : Peer). p.phase.owe) k.peer ∙ r.owe (sym (quiet-is there n.texts s.slots u k.texts) ∙ e);
  ends = λ pair. subst (λ (p : Peer). LeavingAt pair (get p.ends pair)) (sym k.peer) (l pair);
}

pub left-waits : (ns : List Note) (w : Hosts) → IsTranscript ns w → LeftWaits (seen w).this × LeftWaits (seen w).that
left-waits ns w t =
    let m = of-model ns w t in
    let r = ever-wait m.0 in (
      one (seen w).there (run m.0).this (seen w).this (seen w).going m.1.this r.0 (λ pair. (leaving-ever m.0 pair).0),
      one (seen w).here (run m.0).that (seen w).that (seen w).coming m.1.that r.1 (λ pair. (leaving-ever m.0 pair).1),
    )
