-- The notes of one peer are a run of a host that has this peer alone.
use Rattle.std.proofs.Common.{◌≡◌, ℕ, ◌<◌, ◌==◌, Bool, true, false, cond, ◌||◌, if◌then◌else◌, List, [], ◌∷◌, Option, None, Some, Result, Ok, Err, inl, inr, refl, sym, ap, ◌∙◌, subst, arith}
use Rattle.std.proofs.lemmas.Bool.{eqb-true}
use Rattle.ncp_leader.specs.declared.leader.Leader.{Leader}
use Rattle.ncp_leader.specs.declared.leader.Short.{Short}
use Rattle.ncp_leader.specs.Leader.{leader_in}
use Rattle.ncp_peer.specs.PeerState.{PeerState}
use Rattle.ncp_peer.specs.Hearing.{regular, is_kind}
use Rattle.ncp_peer.specs.Output.{next_of}
use Rattle.ncp_host.specs.Host.{Host, state_in, state_of, numbers_of, is_one_of, new_host}
use Rattle.ncp_host.specs.Arrivals.{received_from, received_with}
use Rattle.ncp_peer.specs.declared.received.Received.{Received}
use Rattle.ncp_host.specs.Turns.{message_in_turn, first_message, next_output}
use Rattle.ncp_transcript.specs.declared.call.Call.{Call}
use Rattle.ncp_transcript.specs.declared.note.HostNote.{HostNote}
use Rattle.ncp_transcript.specs.Answers.{answer_to}
use Rattle.ncp_transcript.specs.After.{after_note}
use Rattle.ncp_transcript.specs.Noting.{is_answer, if_peer, answer_with, IsOutOfMemory}
use Rattle.ncp_transcript.specs.Runs.{answer_returned, IsHostSaid, IsHostRun}
use Rattle.ncp_transcript.proofs.AskedCalls.{same-answer}
use Rattle.ncp_proof_runs.specs.Peers.{FromBeginning, peer_of_leader, is_this_number, names, notes_of_peer, note_for}
use Rattle.ncp_proof_runs.proofs.States.{done, message_cons}
use Rattle.ncp_proof_runs.proofs.HostRuns.{Holds, some_same, out-turn, out-leader, note-state}
use Rattle.ncp_proof_runs.proofs.EachPeer.{holds-after, new-holds, new-state}
use Rattle.ncp_transcript.specs.Asked.{peer_of_call}

-- what is kept for this peer is the same in both hosts
same-at : (h g : Host) (n peer : ℕ) → state_of h n ≡ state_of g n → (peer == n) ≡ true → state_of h peer ≡ state_of g peer
same-at h g n peer e q =
    let is : peer ≡ n = eqb-true peer n q in
    ap (state_of h) is ∙ e ∙ ap (state_of g) (sym is)

-- Calls answer the same.

numbered : (o : Option ℕ) (n : ℕ) → is_this_number n o ≡ true → o ≡ Some n
numbered None n q = absurd (cc)
numbered (Some m) n q = ap (λ (k : ℕ). Some k) (eqb-true m n q)

answer-same : (call : Call) (h g : Host) (n : ℕ) → state_of h n ≡ state_of g n → is_this_number n (peer_of_call call) ≡ true → answer_to call h ≡ answer_to call g
answer-same call h g n e q = same-answer h g n e call (numbered (peer_of_call call) n q)

-- Bits come the same.

host-named : (b : Bool) (host n : ℕ) → is_this_number n (if b then Some host else None) ≡ true → (host == n) ≡ true
host-named true host n q = q
host-named false host n q = absurd (cc)

bits-same : (r : Result Leader Short) (bits : List Bool) (h g : Host) (n : ℕ) → state_of h n ≡ state_of g n → is_this_number n (peer_of_leader r) ≡ true → (answer_with r h ≡ answer_with r g) × (received_with r bits h ≡ received_with r bits g)
bits-same (Err short) bits h g n e q = (refl, refl)
bits-same (Ok leader) bits h g n e q =
    let same = same-at h g n leader.host e (host-named (leader.kind == regular) leader.host n q) in (
      ap (λ (x : Option PeerState). if is_answer leader.kind then if_peer x leader else None) same,
      ap (λ (x : Option PeerState). if is_kind leader.kind then received_from x leader bits else Received.Other leader.kind) same,
    )

-- What goes out goes out of the host that has this peer alone.

one-turn : (ps : List (ℕ × PeerState)) (n : ℕ) (s : PeerState) (out : ℕ × List Bool) → numbers_of ps ≡ n ∷ [] → state_in ps n ≡ Some s → next_of n s ≡ Some out → message_in_turn ps ≡ Some out.1
one-turn [] n s out numbers e next = absurd (cc)
one-turn (p ∷ ps) n s out numbers e next =
    let number : p.0 ≡ n = cc in
    let here : (p.0 == n) ≡ true = grind (arith, number) in
    let state : p.1 ≡ s = some_same (sym (ap (λ (b : Bool). if b then Some p.1 else state_in ps n) here) ∙ e) in
    message_cons p ps ∙ ap (λ x. first_message x (message_in_turn ps)) (ap (λ (k : ℕ). next_of k p.1) number ∙ ap (λ (x : PeerState). next_of n x) state ∙ next)

out-same : (ns : List ℕ) (h g : Host) (n : ℕ) (message : List Bool) → Holds ns h → Holds (n ∷ []) g → state_of h n ≡ state_of g n → next_output h ≡ Some message → is_this_number n (peer_of_leader (leader_in message)) ≡ true → next_output g ≡ Some message
out-same ns h g n message k l e p q =
    let t = out-turn ns h message k p in
    let named : (t.n == n) ≡ true = sym (ap (λ (r : Result Leader Short). is_this_number n (peer_of_leader r)) (out-leader ns h message k t)) ∙ q in
    let is : t.n ≡ n = eqb-true t.n n named in
    one-turn g.peers n t.s (t.on, message) l.numbers (sym e ∙ ap (state_of h) (sym is) ∙ t.found) (ap (λ (j : ℕ). next_of j t.s) (sym is) ∙ t.next)

-- One note.

want-same : (call : Call) (note : HostNote) (h g : Host) → answer_to call h ≡ answer_to call g → IsOutOfMemory call note h → IsOutOfMemory call note g
want-same call note h g e w = record { takes = w.takes; good = sym e ∙ w.good; said = w.said }

said-alone : (ns : List ℕ) (note : HostNote) (h g : Host) (n : ℕ) → Holds ns h → Holds (n ∷ []) g → state_of h n ≡ state_of g n → names n note ≡ true → IsHostSaid note h → IsHostSaid note g
said-alone ns (HostNote.Refused call fault) h g n k l e q p = elim p [
  | inl by_rules ↦ inl (sym (answer-same call h g n e q) ∙ by_rules)
  | inr want ↦ inr (want-same call (HostNote.Refused call fault) h g (answer-same call h g n e q) want)
]
said-alone ns (HostNote.Done call) h g n k l e q p = sym (answer-same call h g n e q) ∙ p
said-alone ns (HostNote.Took peer pair bytes text) h g n k l e q p = sym (answer-same (Call.Take peer pair bytes) h g n e q) ∙ p
said-alone ns (HostNote.State peer pair r) h g n k l e q p = sym (answer-same (Call.State peer pair) h g n e q) ∙ p
said-alone ns (HostNote.Phase peer flags) h g n k l e q p = sym (answer-same (Call.Phase peer) h g n e q) ∙ p
said-alone ns (HostNote.Echoed peer byte) h g n k l e q p = sym (answer-same (Call.Echoed peer) h g n e q) ∙ p
said-alone ns (HostNote.Errors peer errors) h g n k l e q p = sym (answer-same (Call.Errors peer) h g n e q) ∙ p
said-alone ns (HostNote.Counts peer counts) h g n k l e q p = sym (answer-same (Call.Counts peer) h g n e q) ∙ p
said-alone ns (HostNote.Waiting peer place command) h g n k l e q p = sym (answer-same (Call.Waiting peer place) h g n e q) ∙ p
said-alone ns (HostNote.Kept peer link message) h g n k l e q p = sym (answer-same (Call.Kept peer link) h g n e q) ∙ p
said-alone ns (HostNote.Ignored ignored) h g n k l e q p = absurd (cc)
said-alone ns (HostNote.Out message) h g n k l e q p = out-same ns h g n message k l e p q
said-alone ns HostNote.Nothing h g n k l e q p = absurd (cc)
said-alone ns (HostNote.In message received) h g n k l e q p = let both = bits-same (leader_in message) message h g n e q in (sym both.0 ∙ p.0, sym both.1 ∙ p.1)
said-alone ns (HostNote.Answered peer link how received) h g n k l e q p = ap (λ (x : Option PeerState). answer_returned x link) (sym (same-at h g n peer e q)) ∙ p

-- All of them.

run-alone : (ns : List ℕ) (all : List HostNote) (h g : Host) (n : ℕ) → Holds ns h → Holds (n ∷ []) g → state_of h n ≡ state_of g n → IsHostRun all h → IsHostRun (notes_of_peer n all) g
run-alone ns [] h g n k l e p = tt
run-alone ns (note ∷ rest) h g n k l e p = go (names n note) refl (λ other m same. run-alone ns rest (after_note note h) other n (holds-after ns note h k p.0) m same p.1)
  where
    told : (b : Bool) → names n note ≡ b → state_of (after_note note h) n ≡ done b (note_for note) (state_of h n)
    told b q = note-state ns note h n k p.0 ∙ ap (λ (c : Bool). done c (note_for note) (state_of h n)) q

    stays : (o : Option PeerState) → done false (note_for note) o ≡ o
    stays None = refl
    stays (Some s) = refl

    go : (b : Bool) → names n note ≡ b → ((other : Host) → Holds (n ∷ []) other → state_of (after_note note h) n ≡ state_of other n → IsHostRun (notes_of_peer n rest) other) → IsHostRun (notes_of_peer n (note ∷ rest)) g
    go true q more =
        let said = said-alone ns note h g n k l e q p.0 in
        let is : notes_of_peer n (note ∷ rest) ≡ note ∷ notes_of_peer n rest = ap (λ (c : Bool). cond c (note ∷ notes_of_peer n rest) (notes_of_peer n rest)) q in
        let there : state_of (after_note note g) n ≡ done true (note_for note) (state_of g n) = note-state (n ∷ []) note g n l said ∙ ap (λ (c : Bool). done c (note_for note) (state_of g n)) q in
        let same : state_of (after_note note h) n ≡ state_of (after_note note g) n = told true q ∙ ap (done true (note_for note)) e ∙ sym there in
        subst (λ (xs : List HostNote). IsHostRun xs g) (sym is) (said, more (after_note note g) (holds-after (n ∷ []) note g l said) same)
    go false q more =
        let is : notes_of_peer n (note ∷ rest) ≡ notes_of_peer n rest = ap (λ (c : Bool). cond c (note ∷ notes_of_peer n rest) (notes_of_peer n rest)) q in
        subst (λ (xs : List HostNote). IsHostRun xs g) (sym is) (more g l (told false q ∙ stays (state_of h n) ∙ e))

one-place : (n m : ℕ) → n < 256 → is_one_of m (n ∷ []) ≡ true → m < 256
one-place n m l e = go (n == m) refl e
  where
    go : (b : Bool) → (n == m) ≡ b → (b || false) ≡ true → m < 256
    go true q e = let is : n ≡ m = eqb-true n m q in subst (λ (k : ℕ). k < 256) is l
    go false q e = absurd (cc)

pub alone : (me : ℕ) (ns : List ℕ) (all : List HostNote) (n : ℕ) → FromBeginning me ns all → is_one_of n ns ≡ true → IsHostRun (notes_of_peer n all) (new_host me (n ∷ []))
alone me ns all n from e =
    run-alone ns all (new_host me ns) (new_host me (n ∷ [])) n
    (new-holds me ns from.distinct from.places)
    (new-holds me (n ∷ []) refl (λ m one. one-place n m (from.places n e) one))
    (new-state ns n e ∙ sym (new-state (n ∷ []) n (itself n)))
    from.run
  where
    itself : (k : ℕ) → is_one_of k (k ∷ []) ≡ true
    itself k = let same : (k == k) ≡ true = grind arith in ap (λ (b : Bool). b || false) same
