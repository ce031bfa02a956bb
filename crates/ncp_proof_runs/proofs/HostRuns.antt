-- A host of many peers, peer by peer.
use Rattle.std.proofs.Common.{◌≡◌, ℕ, ◌<◌, ◌==◌, Bool, true, false, if◌then◌else◌, List, Option, None, Some, Result, Ok, Err, refl, sym, ap, ◌∙◌, subst}
use Rattle.std.proofs.lemmas.Bool.{eqb-true}
use Rattle.ncp_leader.specs.declared.leader.Leader.{Leader}
use Rattle.ncp_leader.specs.declared.leader.Short.{Short}
use Rattle.ncp_leader.specs.Leader.{leader_in}
use Rattle.ncp_leader.specs.Message.{message_in}
use Rattle.ncp_model.specs.declared.pair.Pair.{Pair}
use Rattle.ncp_model.specs.declared.call_fault.CallFault.{CallFault}
use Rattle.ncp_model.specs.Peers.{Take, comes_of, reply_of_take}
use Rattle.ncp_peer.specs.declared.received.Received.{Received}
use Rattle.ncp_peer.specs.PeerState.{PeerState, state_calls, answer_comes}
use Rattle.ncp_peer.specs.Hearing.{regular, message_received, answer_received}
use Rattle.ncp_peer.specs.Output.{leader_to, links, after_output}
use Rattle.ncp_host.specs.Host.{Host, state_in, state_of, numbers_of, are_distinct, if_known}
use Rattle.ncp_host.specs.Arrivals.{received_with, received_from}
use Rattle.ncp_host.specs.Turns.{next_output}
use Rattle.ncp_transcript.specs.declared.call.Call.{Call}
use Rattle.ncp_transcript.specs.declared.note.HostNote.{HostNote}
use Rattle.ncp_transcript.specs.Notes.{done_or_refused, returned_or_refused}
use Rattle.ncp_transcript.specs.Answers.{answer_to}
use Rattle.ncp_transcript.specs.After.{after_note}
use Rattle.ncp_transcript.specs.Noting.{answer_with}
use Rattle.ncp_transcript.specs.Runs.{answer_returned, IsHostSaid}
use Rattle.ncp_proof_runs.specs.Peers.{peer_of_leader, is_this_number, names, out_for, note_for}
use Rattle.ncp_proof_runs.proofs.Said.{IsDone, IsOut, IsIn, IsSaidOf}
use Rattle.ncp_proof_runs.proofs.States.{done, done_nothing, kind_first, at_peer-state, changed-state, called-state, bits-state, Turn, turn, asked-peer}
use Rattle.ncp_proof_runs.proofs.Ready.{Addressed, first_is, link_small, output-leader}
use Rattle.ncp_transcript.specs.Asked.{Asked, asked_in, reply_to, as_done, asked_reply, peer_of_call}
use Rattle.ncp_transcript.proofs.AskedCalls.{done-asked}

-- its peers are these, and every message that is kept for one names it
pub record Holds (ns : List ℕ) (h : Host) : Type 0 where
  pub distinct : are_distinct ns ≡ true
  pub numbers : numbers_of h.peers ≡ ns
  pub good : (n : ℕ) (s : PeerState) → state_of h n ≡ Some s → (n < 256) × Addressed n s

pub some_same : {A : Type 0} {a b : A} → Some a ≡ Some b → a ≡ b
some_same e = cc

-- What goes out.

pub out-turn : (ns : List ℕ) (h : Host) (message : List Bool) → Holds ns h → next_output h ≡ Some message → Turn h.peers message
out-turn ns h message k e = turn h.peers message (ap are_distinct k.numbers ∙ k.distinct) e

pub out-leader : (ns : List ℕ) (h : Host) (message : List Bool) → Holds ns h → (t : Turn h.peers message) → leader_in message ≡ Ok (leader_to t.n t.on)
out-leader ns h message k t =
    let r = first_is t.n t.s links t.on message t.next in
    let g = k.good t.n t.s t.found in
    output-leader t.n t.on t.s message g.0 (link_small t.on r.0) g.1 r.1

pub out-is : (ns : List ℕ) (h : Host) (message : List Bool) → Holds ns h → (t : Turn h.peers message) → IsOut t.n message t.s
out-is ns h message k t =
    let r = first_is t.n t.s links t.on message t.next in
    record { on = t.on; a_link = r.0; leader = out-leader ns h message k t; ready = r.1 }

-- One note.

pub note-state : (ns : List ℕ) (note : HostNote) (h : Host) (n : ℕ) → Holds ns h → IsHostSaid note h → state_of (after_note note h) n ≡ done (names n note) (note_for note) (state_of h n)
note-state ns (HostNote.Done call) h n k p = called-state call h n
note-state ns (HostNote.Took peer pair bytes text) h n k p = changed-state h peer n (state_calls pair (Take bytes))
note-state ns (HostNote.Out message) h n k p =
    let t = out-turn ns h message k p in
    ap (λ (ps : List (ℕ × PeerState)). state_in ps n) t.after
    ∙ at_peer-state h.peers t.n n (after_output t.on message)
    ∙ ap (λ (m : Result Leader Short). done (is_this_number n (peer_of_leader m)) (out_for m message) (state_of h n)) (sym (out-leader ns h message k t))
note-state ns (HostNote.In message received) h n k p = bits-state (leader_in message) message h n p.0
note-state ns (HostNote.Answered peer link how received) h n k p = changed-state h peer n (answer_comes link how)
note-state ns other h n k p = done_nothing (names n other) (state_of h n)

-- What the note says of what is kept for its peer.

took-said : (r : Result (List Bool) CallFault) (peer : ℕ) (pair : Pair) (bytes : ℕ) (text : List Bool) → returned_or_refused (Call.Take peer pair bytes) (HostNote.Took peer pair bytes) r ≡ HostNote.Took peer pair bytes text → r ≡ Ok text
took-said (Ok it) peer pair bytes text e = let same : it ≡ text = cc in ap (λ (x : List Bool). Ok x) same
took-said (Err fault) peer pair bytes text e = absurd (cc)

at_number : (h : Host) (peer n : ℕ) (s : PeerState) → (peer == n) ≡ true → state_of h n ≡ Some s → state_of h peer ≡ Some s
at_number h peer n s e f = ap (state_of h) (eqb-true peer n e) ∙ f

out-said : (ns : List ℕ) (message : List Bool) (h : Host) (n : ℕ) (s : PeerState) → Holds ns h → Turn h.peers message → state_of h n ≡ Some s → is_this_number n (peer_of_leader (leader_in message)) ≡ true → IsOut n message s
out-said ns message h n s k t f e =
    let here : (t.n == n) ≡ true = ap (λ (r : Result Leader Short). is_this_number n (peer_of_leader r)) (sym (out-leader ns h message k t)) ∙ e in
    let same : s ≡ t.s = some_same (sym (at_number h t.n n s here f) ∙ t.found) in
    let out : IsOut n message t.s = subst (λ (j : ℕ). IsOut j message t.s) (eqb-true t.n n here) (out-is ns h message k t) in
    subst (λ (x : PeerState). IsOut n message x) (sym same) out

in-said : (r : Result Leader Short) (bits : List Bool) (told : Received) (h : Host) (n : ℕ) (s : PeerState) → answer_with r h ≡ None → received_with r bits h ≡ told → state_of h n ≡ Some s → is_this_number n (peer_of_leader r) ≡ true → IsIn r bits told s
in-said (Err short) bits told h n s a e f i = absurd (cc)
in-said (Ok leader) bits told h n s a e f i = go (leader.kind == regular) refl i
  where
    go : (b : Bool) → (leader.kind == regular) ≡ b → is_this_number n (if b then Some leader.host else None) ≡ true → told ≡ message_received leader.link (message_in bits) s
    go false g i = absurd (cc)
    go true g i =
        sym e
        ∙ ap (λ (b : Bool). if b then received_from (state_of h leader.host) leader bits else Received.Other leader.kind) (kind_first leader.kind true g)
        ∙ ap (λ (o : Option PeerState). received_from o leader bits) (at_number h leader.host n s i f)
        ∙ ap (λ (b : Bool). if b then message_received leader.link (message_in bits) s else answer_received leader.link s) g

pub done-ok : (call : Call) (r : Result (Unit {0}) CallFault) → done_or_refused call r ≡ HostNote.Done call → r ≡ Ok tt
done-ok call (Ok it) e = refl
done-ok call (Err fault) e = absurd (cc)

done-said : (call : Call) (h : Host) (n : ℕ) (s : PeerState) → answer_to call h ≡ HostNote.Done call → state_of h n ≡ Some s → is_this_number n (peer_of_call call) ≡ true → IsDone (asked_in call) s
done-said call h n s p f e = go (asked_in call) refl (done-asked call h p)
  where
    go : (a : Option (ℕ × Asked)) → asked_in call ≡ a → asked_reply a h ≡ Ok tt → IsDone a s
    go None i r = tt
    go (Some (peer, asked)) i r =
        let here : (peer == n) ≡ true = ap (is_this_number n) (sym (asked-peer call peer asked i)) ∙ e in
        ap (λ (o : Option PeerState). if_known o (λ x. as_done (reply_to asked x))) (sym (at_number h peer n s here f)) ∙ r

pub note-said : (ns : List ℕ) (note : HostNote) (h : Host) (n : ℕ) (s : PeerState) → Holds ns h → IsHostSaid note h → state_of h n ≡ Some s → names n note ≡ true → IsSaidOf n note s
note-said ns (HostNote.Done call) h n s k p f e = done-said call h n s p f e
note-said ns (HostNote.Took peer pair bytes text) h n s k p f e =
    took-said (reply_of_take (comes_of pair (Take bytes) s.peer)) peer pair bytes text
    (ap (λ (o : Option PeerState). returned_or_refused (Call.Take peer pair bytes) (HostNote.Took peer pair bytes) (if_known o (λ x. reply_of_take (comes_of pair (Take bytes) x.peer)))) (sym (at_number h peer n s e f)) ∙ p)
note-said ns (HostNote.Out message) h n s k p f e = out-said ns message h n s k (out-turn ns h message k p) f e
note-said ns (HostNote.In message received) h n s k p f e = in-said (leader_in message) message received h n s p.0 p.1 f e
note-said ns (HostNote.Answered peer link how received) h n s k p f e =
    some_same (sym p ∙ ap (λ (o : Option PeerState). answer_returned o link) (at_number h peer n s e f))
note-said ns other h n s k p f e = tt
