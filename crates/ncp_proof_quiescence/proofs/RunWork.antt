-- A run of a host with one of its peers is paid for.
use Rattle.std.proofs.Common.{◌≡◌, ℕ, ◌+◌, ◌≤◌, Bool, true, List, [], ◌∷◌, Option, None, Some, Result, Ok, Err, sym, subst, arith}
use Rattle.ncp_leader.specs.declared.leader.Leader.{Leader}
use Rattle.ncp_leader.specs.declared.leader.Short.{Short}
use Rattle.ncp_leader.specs.Leader.{leader_in}
use Rattle.ncp_leader.specs.Message.{message_in}
use Rattle.ncp_slot.specs.declared.slot.Slot.TheVariants.{Empty, Ready, Travelling, Held}
use Rattle.ncp_slot.specs.Slots.{LinkSlot, slot_at, is_quiet}
use Rattle.ncp_model.specs.Peers.{Take}
use Rattle.ncp_peer.specs.PeerState.{PeerState, new_state}
use Rattle.ncp_host.specs.Host.{is_one_of}
use Rattle.ncp_peer.specs.Output.{after_by, output_by}
use Rattle.ncp_transcript.specs.Asked.{Asked, Asks, Asks_echo, Asks_reset, Asks_wake, asked_in}
use Rattle.ncp_transcript.specs.declared.note.HostNote.{HostNote}
use Rattle.ncp_proof_runs.specs.Peers.{FromBeginning, notes_of_peer, state_asked, bits_for, out_for, note_for, notes_for}
use Rattle.ncp_proof_runs.proofs.Said.{IsOut, IsSaidOf, IsRunOf}
use Rattle.ncp_proof_runs.proofs.EachPeer.{each_peer}
use Rattle.ncp_proof_progress.specs.Work.{queue_work, peer_work}
use Rattle.ncp_proof_progress.proofs.EndsWork.{ends-none}
use Rattle.ncp_proof_progress.proofs.PeerWork.{call-work, echo-work, reset-work}
use Rattle.ncp_proof_quiescence.specs.RunWork.{one_if_free, one_if_new, new_by, asking_brings, arrival_brings, brought_by, sent_new, brought}
use Rattle.ncp_proof_quiescence.proofs.HostWork.{message-work, answer-work, made-work}

asked-work : (o : Option (ℕ × Asked)) (s : PeerState) → peer_work (state_asked o s).peer ≤ peer_work s.peer + asking_brings o s
asked-work (Some (peer, Asks pair call)) s = call-work pair call s.peer
asked-work (Some (peer, Asks_echo byte)) s = echo-work byte s.peer
asked-work (Some (peer, Asks_reset)) s = reset-work (is_quiet s.slots) s.peer
asked-work (Some (peer, Asks_wake)) s = omega arith
asked-work None s = omega arith

bits-come : (r : Result Leader Short) (bits : List Bool) (s : PeerState) → peer_work (bits_for r bits s).peer ≤ peer_work s.peer + arrival_brings r bits
bits-come (Err short) bits s = omega arith
bits-come (Ok leader) bits s = message-work leader.link bits (message_in bits) s

out-work : (n on : ℕ) (m : List Bool) (s : PeerState) (slot : LinkSlot) → output_by slot n on s.peer ≡ Some m → peer_work (after_by slot on s.peer) + one_if_free slot ≤ peer_work s.peer
out-work n on m s Empty e = made-work n on s.peer m e
out-work n on m s (Ready r) e = omega arith
out-work n on m s (Travelling r) e = absurd (cc e)
out-work n on m s (Held r) e = absurd (cc e)

message-out : (n : ℕ) (m : List Bool) (s : PeerState) → IsOut n m s → peer_work (out_for (leader_in m) m s).peer + one_if_new (leader_in m) s ≤ peer_work s.peer
message-out n m s p = subst (λ (r : Result Leader Short). peer_work (out_for r m s).peer + one_if_new r s ≤ peer_work s.peer) (sym p.leader) (out-work n p.on m s (slot_at s.slots p.on) p.ready)

note-work : (n : ℕ) (note : HostNote) (s : PeerState) → IsSaidOf n note s → peer_work (note_for note s).peer + new_by note s ≤ peer_work s.peer + brought_by note s
note-work n (HostNote.Done call) s p = let h = asked-work (asked_in call) s in omega (arith, h)
note-work n (HostNote.Took peer pair bytes text) s p = let h = call-work pair (Take bytes) s.peer in omega (arith, h)
note-work n (HostNote.Out message) s p = let h = message-out n message s p in omega (arith, h)
note-work n (HostNote.In message received) s p = let h = bits-come (leader_in message) message s in omega (arith, h)
note-work n (HostNote.Answered peer link answer received) s p = let h = answer-work link answer s in omega (arith, h)
note-work n note s p = omega arith

run-work : (n : ℕ) (all : List HostNote) (s : PeerState) → IsRunOf n all s → sent_new all s + peer_work (notes_for all s).peer ≤ peer_work s.peer + brought all s
unfolding sent_new brought
run-work n [] s r = omega arith
run-work n (note ∷ rest) s r =
    let h = note-work n note s r.0 in
    let k = run-work n rest (note_for note s) r.1 in
    omega (arith, h, k)

new-work : peer_work new_state.peer ≡ 0
unfolding queue_work
new-work = let z = ends-none in omega (arith, z)

pub whole-run : (me : ℕ) (ns : List ℕ) (all : List HostNote) (n : ℕ) → FromBeginning me ns all → is_one_of n ns ≡ true → sent_new (notes_of_peer n all) new_state + peer_work (notes_for (notes_of_peer n all) new_state).peer ≤ brought (notes_of_peer n all) new_state
whole-run me ns all n from e =
    let h = run-work n (notes_of_peer n all) new_state (each_peer me ns all n from e).run in
    let z = new-work in
    omega (arith, h, z)
