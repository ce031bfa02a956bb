-- A note in the midst of a run, and the host before it.
use Rattle.std.proofs.Common.{◌≡◌, ℕ, ◌==◌, Bool, true, false, if◌then◌else◌, List, [], ◌∷◌, ◌++◌, Option, None, Some, Result, Ok, Err, refl, sym, ap, ◌∙◌, subst}
use Rattle.std.proofs.lemmas.Bool.{eqb-true}
use Rattle.ncp_leader.specs.declared.leader.Leader.{Leader}
use Rattle.ncp_leader.specs.declared.leader.Short.{Short}
use Rattle.ncp_leader.specs.Leader.{leader_in}
use Rattle.ncp_wire.specs.declared.answer.Answer.{Answer}
use Rattle.ncp_wire.specs.declared.answer.Answer.TheVariants.{Dead}
use Rattle.ncp_slot.specs.Slots.{slot_at}
use Rattle.ncp_peer.specs.declared.received.Received.{Received}
use Rattle.ncp_peer.specs.PeerState.{PeerState, new_state}
use Rattle.ncp_peer.specs.Hearing.{answer_received}
use Rattle.ncp_peer.specs.Output.{leader_to, links, output_on, next_of}
use Rattle.ncp_host.specs.Host.{Host, state_in, state_of, is_one_of, new_host}
use Rattle.ncp_host.specs.Turns.{message_in_turn, first_message}
use Rattle.ncp_transcript.specs.declared.note.HostNote.{HostNote}
use Rattle.ncp_transcript.specs.After.{after_note, after_notes}
use Rattle.ncp_transcript.specs.Runs.{answer_returned, IsHostSaid, IsHostRun}
use Rattle.ncp_proof_runs.specs.Peers.{FromBeginning, notes_of_peer, notes_for}
use Rattle.ncp_proof_runs.specs.Links.{nothing_noted, goes_fresh, noted_on, slot_so_far, received_noted, ready_as_noted}
use Rattle.ncp_proof_runs.proofs.States.{peer_there, message_cons}
use Rattle.ncp_proof_runs.proofs.Ready.{none_is}
use Rattle.ncp_proof_runs.proofs.HostRuns.{Holds, some_same, out-turn, out-is}
use Rattle.ncp_proof_runs.proofs.EachPeer.{holds-after, new-holds, each_peer}
use Rattle.ncp_proof_runs.proofs.LinksTold.{ready-is, out-free, out-again, out-woken, received-told, new-tells, run-tells}

-- the notes before one are a run, and it says what the rules say there
run-cut : (before after : List HostNote) (note : HostNote) (h : Host) → IsHostRun (before ++ note ∷ after) h → IsHostRun before h × IsHostSaid note (after_notes before h)
run-cut [] after note h r = (tt, r.0)
run-cut (first ∷ before) after note h r = let rest = run-cut before after note (after_note first h) r.1 in ((r.0, rest.0), rest.1)

run-front : (before after : List HostNote) (h : Host) → IsHostRun (before ++ after) h → IsHostRun before h
run-front [] after h r = tt
run-front (first ∷ before) after h r = (r.0, run-front before after (after_note first h) r.1)

pub from-front : (me : ℕ) (ns : List ℕ) (before after : List HostNote) → FromBeginning me ns (before ++ after) → FromBeginning me ns before
from-front me ns before after from = record { distinct = from.distinct; places = from.places; run = run-front before after (new_host me ns) from.run }

holds-all : (ns : List ℕ) (all : List HostNote) (h : Host) → Holds ns h → IsHostRun all h → Holds ns (after_notes all h)
holds-all ns [] h k r = k
holds-all ns (note ∷ rest) h k r = holds-all ns rest (after_note note h) (holds-after ns note h k r.0) r.1

-- the host before a note
pub record Before (me : ℕ) (ns : List ℕ) (before : List HostNote) (note : HostNote) : Type 0 where
  pub from : FromBeginning me ns before
  pub said : IsHostSaid note (after_notes before (new_host me ns))
  pub holds : Holds ns (after_notes before (new_host me ns))

pub before_note : (me : ℕ) (ns : List ℕ) (before after : List HostNote) (note : HostNote) → FromBeginning me ns (before ++ note ∷ after) → Before me ns before note
before_note me ns before after note from =
    let cut = run-cut before after note (new_host me ns) from.run in
    record {
      from = record { distinct = from.distinct; places = from.places; run = cut.0 };
      said = cut.1;
      holds = holds-all ns before (new_host me ns) (new-holds me ns from.distinct from.places) cut.0;
    }

-- what is kept for a peer, and on a link to it

pub link_told : (me : ℕ) (ns : List ℕ) (all : List HostNote) (n on : ℕ) → FromBeginning me ns all → is_one_of n ns ≡ true → slot_at (notes_for (notes_of_peer n all) new_state).slots on ≡ slot_so_far (noted_on on (notes_of_peer n all))
link_told me ns all n on from e =
    run-tells n on (notes_of_peer n all) new_state nothing_noted (each_peer me ns all n from e).run (new-tells on)

-- a message that goes out

pub record GoesOut (me : ℕ) (ns : List ℕ) (before : List HostNote) (message : List Bool) : Type 0 where
  pub n : ℕ
  pub on : ℕ
  pub a_peer : is_one_of n ns ≡ true
  pub a_link : is_one_of on links ≡ true
  pub leader : leader_in message ≡ Ok (leader_to n on)
  pub ready : ready_as_noted n on (noted_on on (notes_of_peer n before)) (notes_for (notes_of_peer n before) new_state).peer ≡ Some message

pub goes_out : (me : ℕ) (ns : List ℕ) (before after : List HostNote) (message : List Bool) → FromBeginning me ns (before ++ HostNote.Out message ∷ after) → GoesOut me ns before message
goes_out me ns before after message from =
    let b = before_note me ns before after (HostNote.Out message) from in
    let h = after_notes before (new_host me ns) in
    let t = out-turn ns h message b.holds b.said in
    let q = out-is ns h message b.holds t in
    let peer : is_one_of t.n ns ≡ true = ap (is_one_of t.n) (sym b.holds.numbers) ∙ peer_there h.peers t.n t.s t.found in
    let same : t.s ≡ notes_for (notes_of_peer t.n before) new_state = some_same (sym t.found ∙ (each_peer me ns before t.n b.from peer).state) in
    record {
      n = t.n;
      on = q.on;
      a_peer = peer;
      a_link = q.a_link;
      leader = q.leader;
      ready = sym (ready-is t.n q.on (noted_on q.on (notes_of_peer t.n before)) (notes_for (notes_of_peer t.n before) new_state) (link_told me ns before t.n q.on b.from peer)) ∙ ap (λ (s : PeerState). output_on t.n q.on s) (sym same) ∙ q.ready;
    }

one_leader : (r : Result Leader Short) (a b : Leader) → r ≡ Ok a → r ≡ Ok b → a ≡ b
one_leader (Ok x) a b e f = let g : Ok a ≡ Ok b = sym e ∙ f in cc
one_leader (Err short) a b e f = absurd (cc)

-- the same for the peer and the link that its leader names
pub ready_out : (me : ℕ) (ns : List ℕ) (before after : List HostNote) (message : List Bool) (n on : ℕ) → FromBeginning me ns (before ++ HostNote.Out message ∷ after) → leader_in message ≡ Ok (leader_to n on)
    → ready_as_noted n on (noted_on on (notes_of_peer n before)) (notes_for (notes_of_peer n before) new_state).peer ≡ Some message
ready_out me ns before after message n on from e =
    let g = goes_out me ns before after message from in
    let same : leader_to g.n g.on ≡ leader_to n on = one_leader (leader_in message) (leader_to g.n g.on) (leader_to n on) g.leader e in
    let peer : g.n ≡ n = ap (λ (l : Leader). l.host) same in
    let link : g.on ≡ on = ap (λ (l : Leader). l.link) same in
    subst (λ (j : ℕ). ready_as_noted j on (noted_on on (notes_of_peer j before)) (notes_for (notes_of_peer j before) new_state).peer ≡ Some message) peer
    (subst (λ (j : ℕ). ready_as_noted g.n j (noted_on j (notes_of_peer g.n before)) (notes_for (notes_of_peer g.n before) new_state).peer ≡ Some message) link g.ready)

pub unanswered_out : (me : ℕ) (ns : List ℕ) (before after : List HostNote) (message : List Bool) (n on : ℕ) → FromBeginning me ns (before ++ HostNote.Out message ∷ after) → leader_in message ≡ Ok (leader_to n on) → (noted_on on (notes_of_peer n before)).unanswered ≡ false
unanswered_out me ns before after message n on from e = out-free n on (noted_on on (notes_of_peer n before)) (notes_for (notes_of_peer n before) new_state).peer message (ready_out me ns before after message n on from e)

pub again_out : (me : ℕ) (ns : List ℕ) (before after : List HostNote) (message : List Bool) (n on : ℕ) → FromBeginning me ns (before ++ HostNote.Out message ∷ after) → leader_in message ≡ Ok (leader_to n on) → goes_fresh (noted_on on (notes_of_peer n before)) ≡ false → message ≡ (noted_on on (notes_of_peer n before)).fresh
again_out me ns before after message n on from e = out-again n on (noted_on on (notes_of_peer n before)) (notes_for (notes_of_peer n before) new_state).peer message (ready_out me ns before after message n on from e)

pub woken_out : (me : ℕ) (ns : List ℕ) (before after : List HostNote) (message : List Bool) (n on : ℕ) → FromBeginning me ns (before ++ HostNote.Out message ∷ after) → leader_in message ≡ Ok (leader_to n on) → (noted_on on (notes_of_peer n before)).answer ≡ Some Dead → (noted_on on (notes_of_peer n before)).woken ≡ true
woken_out me ns before after message n on from e = out-woken n on (noted_on on (notes_of_peer n before)) (notes_for (notes_of_peer n before) new_state).peer message (ready_out me ns before after message n on from e)

-- an answer that comes

known : (o : Option PeerState) (on : ℕ) (told : Received) → answer_returned o on ≡ Some told → (s : PeerState) × (o ≡ Some s) × (answer_received on s ≡ told)
known None on told e = absurd (cc)
known (Some s) on told e = (s, refl, some_same e)

pub answer_received_noted : (me : ℕ) (ns : List ℕ) (before after : List HostNote) (n on : ℕ) (how : Answer) (told : Received) → FromBeginning me ns (before ++ HostNote.Answered n on how told ∷ after)
    → (is_one_of n ns ≡ true) × (told ≡ received_noted (noted_on on (notes_of_peer n before)))
answer_received_noted me ns before after n on how told from =
    let b = before_note me ns before after (HostNote.Answered n on how told) from in
    let h = after_notes before (new_host me ns) in
    let w = known (state_of h n) on told b.said in
    let peer : is_one_of n ns ≡ true = ap (is_one_of n) (sym b.holds.numbers) ∙ peer_there h.peers n w.0 w.1 in
    let same : w.0 ≡ notes_for (notes_of_peer n before) new_state = some_same (sym w.1 ∙ (each_peer me ns before n b.from peer).state) in
    (peer, sym w.2 ∙ ap (answer_received on) same ∙ received-told on (notes_for (notes_of_peer n before) new_state) (noted_on on (notes_of_peer n before)) (link_told me ns before n on b.from peer))

-- nothing goes out

none_in_turn : (ps : List (ℕ × PeerState)) (n : ℕ) (s : PeerState) → message_in_turn ps ≡ None → state_in ps n ≡ Some s → next_of n s ≡ None
none_in_turn [] n s e f = absurd (cc)
none_in_turn (p ∷ ps) n s e f = go (next_of p.0 p.1) refl (none_in_turn ps n s)
  where
    told : (o : Option (ℕ × List Bool)) → next_of p.0 p.1 ≡ o → first_message o (message_in_turn ps) ≡ None
    told o q = ap (λ x. first_message x (message_in_turn ps)) (sym q) ∙ sym (message_cons p ps) ∙ e

    by : (b : Bool) → (p.0 == n) ≡ b → (if b then Some p.1 else state_in ps n) ≡ Some s → next_of p.0 p.1 ≡ None → (state_in ps n ≡ Some s → next_of n s ≡ None) → next_of n s ≡ None
    by true g f q rest = ap (λ (x : PeerState). next_of n x) (sym (some_same f)) ∙ ap (λ (k : ℕ). next_of k p.1) (sym (eqb-true p.0 n g)) ∙ q
    by false g f q rest = rest f

    go : (o : Option (ℕ × List Bool)) → next_of p.0 p.1 ≡ o → (message_in_turn ps ≡ None → state_in ps n ≡ Some s → next_of n s ≡ None) → next_of n s ≡ None
    go None q rest = by (p.0 == n) refl f q (rest (told None q))
    go (Some out) q rest = no_more (told (Some out) q)
      where
        no_more : {A : Type 0} → Some out.1 ≡ None → A
        no_more e = absurd (cc)

pub nothing_ready : (me : ℕ) (ns : List ℕ) (before after : List HostNote) (n on : ℕ) → FromBeginning me ns (before ++ HostNote.Nothing ∷ after) → is_one_of n ns ≡ true → is_one_of on links ≡ true
    → ready_as_noted n on (noted_on on (notes_of_peer n before)) (notes_for (notes_of_peer n before) new_state).peer ≡ None
nothing_ready me ns before after n on from peer link =
    let b = before_note me ns before after HostNote.Nothing from in
    let h = after_notes before (new_host me ns) in
    let s = notes_for (notes_of_peer n before) new_state in
    let there : state_of h n ≡ Some s = (each_peer me ns before n b.from peer).state in
    let none : next_of n s ≡ None = none_in_turn h.peers n s b.said there in
    sym (ready-is n on (noted_on on (notes_of_peer n before)) s (link_told me ns before n on b.from peer)) ∙ none_is n s links on none link

-- a peer that is there is one of the numbers
pub is_a_peer : (me : ℕ) (ns : List ℕ) (all : List HostNote) (n : ℕ) (s : PeerState) → FromBeginning me ns all → state_of (after_notes all (new_host me ns)) n ≡ Some s → is_one_of n ns ≡ true
is_a_peer me ns all n s from e =
    let h = after_notes all (new_host me ns) in
    let k = holds-all ns all (new_host me ns) (new-holds me ns from.distinct from.places) from.run in
    ap (is_one_of n) (sym k.numbers) ∙ peer_there h.peers n s e

pub kept_as_noted : (me : ℕ) (ns : List ℕ) (all : List HostNote) (n : ℕ) (s : PeerState) → FromBeginning me ns all → state_of (after_notes all (new_host me ns)) n ≡ Some s → s ≡ notes_for (notes_of_peer n all) new_state
kept_as_noted me ns all n s from e = some_same (sym e ∙ (each_peer me ns all n from (is_a_peer me ns all n s from e)).state)

pub slot_as_noted : (me : ℕ) (ns : List ℕ) (all : List HostNote) (n on : ℕ) (s : PeerState) → FromBeginning me ns all → state_of (after_notes all (new_host me ns)) n ≡ Some s → slot_at s.slots on ≡ slot_so_far (noted_on on (notes_of_peer n all))
slot_as_noted me ns all n on s from e = ap (λ (x : PeerState). slot_at x.slots on) (kept_as_noted me ns all n s from e) ∙ link_told me ns all n on from (is_a_peer me ns all n s from e)
