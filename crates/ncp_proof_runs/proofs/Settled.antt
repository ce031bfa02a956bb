-- Where the data links are quiet no RRP is owed and no RST is wanted, after each note.
use Rattle.std.proofs.Common.{◌≡◌, ℕ, ◌==◌, Bool, true, false, not, ◌&&◌, if◌then◌else◌, List, [], ◌∷◌, ◌++◌, take, Option, None, Some, Result, Ok, Err, inl, inr, refl, sym, ap, ◌∙◌, subst}
use Rattle.std.specs.List.{list_all, list_any}
use Rattle.std.proofs.lemmas.Bool.Decides.{eqb_tells}
use Rattle.ncp_numbers.specs.Bytes.{bytes_of}
use Rattle.ncp_leader.specs.declared.leader.Leader.{Leader}
use Rattle.ncp_leader.specs.declared.leader.Short.{Short}
use Rattle.ncp_leader.specs.declared.fault.MessageFault.{MessageFault}
use Rattle.ncp_leader.specs.Leader.{leader_in}
use Rattle.ncp_leader.specs.Message.{Message, message_in}
use Rattle.ncp_wire.specs.declared.command.Command.{Command}
use Rattle.ncp_wire.specs.declared.fault.CommandFault.{CommandFault}
use Rattle.ncp_control.specs.Reading.{commands_in, fault_in}
use Rattle.ncp_slot.specs.declared.slot.Slot.TheVariants.{Empty, Ready, Travelling, Held}
use Rattle.ncp_wire.specs.declared.answer.Answer.{Answer}
use Rattle.ncp_wire.specs.declared.answer.Answer.TheVariants.{Rfnm, Incomplete, Dead}
use Rattle.ncp_slot.specs.Slot.{answered, woken}
use Rattle.ncp_slot.specs.Slots.{LinkSlot, LinkSlots, slot_at, with_slot, all_woken, data_links, is_quiet}
use Rattle.ncp_slot.proofs.Places.{slot_at-with_slot_same, slot_at-with_slot_other, is_quiet-tells}
use Rattle.ncp_slot.proofs.Waking.{slot_at-all_woken}
use Rattle.ncp_model.specs.declared.pair.Pair.{Pair}
use Rattle.ncp_model.specs.Effect.{answer, made_by_call}
use Rattle.ncp_model.specs.Texts.{made_by_text}
use Rattle.ncp_model.specs.Ends.{text_in}
use Rattle.ncp_model.specs.Echo.{echo_answer}
use Rattle.ncp_model.specs.Sending.{is_full}
use Rattle.ncp_model.specs.Phase.{Phase, Reaction, up, is_rst, is_rrp, is_other, is_resetting, has_room_for_one, wants_reset, owes_answer, goes_down, queued, phase_answers, phase_asks, makes_all, phase_hears, phase_makes, phase_settles, resets}
use Rattle.ncp_model.specs.Peers.{Peer, Take, happened_at, PairCall, calls_reset, calls_up, cleared, cuts, echo_called, hears, hears_other, makes, peer_sends, reaction, takes_text}
use Rattle.ncp_peer.specs.Counting.{one_more}
use Rattle.ncp_peer.specs.PeerState.{PeerState, new_state, state_calls, control_link, frees_on, is_answered, answer_taken, answer_comes}
use Rattle.ncp_peer.specs.Hearing.{control_size, state_after_control, state_after_text, is_wrong_link, state_hears, state_hears_all, hears_last, message_after}
use Rattle.ncp_peer.specs.Output.{after_by}
use Rattle.ncp_host.specs.Host.{state_of, is_one_of, new_host}
use Rattle.ncp_transcript.specs.Asked.{asked_in, Asked, Asks, Asks_echo, Asks_reset, Asks_wake}
use Rattle.ncp_transcript.specs.declared.note.HostNote.{HostNote}
use Rattle.ncp_transcript.specs.After.{after_notes}
use Rattle.ncp_proof_runs.specs.Peers.{FromBeginning, notes_of_peer, state_asked, bits_for, out_for, note_for, notes_for}
use Rattle.ncp_proof_runs.specs.Links.{noted_on, is_quiet_noted}
use Rattle.ncp_proof_runs.specs.Making.{made_of}
use Rattle.ncp_proof_runs.proofs.EachPeer.{each_peer}
use Rattle.ncp_proof_runs.proofs.Quiet.{quiet_as_noted}
use Rattle.ncp_proof_runs.proofs.InOrder.{flags-noted}

-- no RST is wanted and no RRP is owed
abbrev pub Clear : Phase → Type 0
Clear p = (p.want ≡ false) × (p.owe ≡ false)

abbrev pub Settled : PeerState → Type 0
Settled s = is_quiet s.slots ≡ true → Clear s.peer.phase

-- Phases.

asks-clear : (p : Phase) → p.owe ≡ false → Clear (phase_asks p)
asks-clear p e = go p.want refl
  where
    go : (b : Bool) → p.want ≡ b → Clear (if b then record p { down = false; want = false; wait = true; waiting = if list_any is_rst p.waiting then p.waiting else p.waiting ++ Command.Rst ∷ [] } else p)
    go true f = (refl, e)
    go false f = (f, e)

answers-owe : (p : Phase) → (phase_answers p).owe ≡ false
answers-owe p = go p.owe refl
  where
    go : (b : Bool) → p.owe ≡ b → (if b then record p { down = false; owe = false; waiting = if list_any is_rrp p.waiting then p.waiting else p.waiting ++ Command.Rrp ∷ [] } else p).owe ≡ false
    go true f = refl
    go false f = f

settles-clear : (quiet : Bool) (p : Phase) → quiet ≡ true → Clear (phase_settles quiet p)
settles-clear quiet p q = subst (λ (b : Bool). Clear (if b then phase_asks (phase_answers p) else p)) (sym q) (asks-clear (phase_answers p) (answers-owe p))

pub makes-clear : (cs : List Command) (p : Phase) → Clear p → Clear (makes_all cs p)
makes-clear [] p k = k
makes-clear (c ∷ cs) p k = makes-clear cs (phase_makes c p) (go (up p && is_other c) (has_room_for_one p))
  where
    go : (b d : Bool) → Clear (if b then (if d then queued c p else goes_down p) else p)
    go true true = k
    go true false = k
    go false d = k

-- what is done while the host is up
up-clear : (cs : List Command) (p now : Peer) → now.phase ≡ makes_all cs p.phase → Clear p.phase → Clear (if up p.phase then now else p).phase
up-clear cs p now is k = go (up p.phase)
  where
    go : (b : Bool) → Clear (if b then now else p).phase
    go true = subst Clear (sym is) (makes-clear cs p.phase k)
    go false = k

reset-clear : (quiet : Bool) (p : Peer) → Clear p.phase → quiet ≡ true → Clear (calls_reset quiet p).phase
reset-clear quiet p k q = go (is_resetting p.phase)
  where
    inner : (b : Bool) → Clear (if b then p.phase else phase_settles quiet (wants_reset p.phase))
    inner true = k
    inner false = settles-clear quiet (wants_reset p.phase) q

    go : (b : Bool) → Clear (if b then p else cleared (resets quiet p.phase) p).phase
    go true = k
    go false = inner (is_resetting p.phase)

other-clear : (quiet : Bool) (c : Command) (p : Peer) → ((r : Reaction) → phase_hears c r p.phase ≡ (if up p.phase then (if r.full then goes_down p.phase else makes_all r.replies p.phase) else p.phase))
    → Clear p.phase → Clear (if up p.phase then hears_other quiet c p else p).phase
other-clear quiet c p is k = go (up p.phase)
  where
    r : Reaction
    r = reaction quiet c p

    full : (b : Bool) → Clear (if b then goes_down p.phase else makes_all r.replies p.phase)
    full true = k
    full false = makes-clear r.replies p.phase k

    inner : (b : Bool) → Clear (if b then (if r.full then goes_down p.phase else makes_all r.replies p.phase) else p.phase)
    inner true = full r.full
    inner false = k

    go : (b : Bool) → Clear (if b then hears_other quiet c p else p).phase
    go true = subst Clear (sym (is r)) (inner (up p.phase))
    go false = k

command-clear : (quiet : Bool) (c : Command) (p : Peer) → Clear p.phase → quiet ≡ true → Clear (hears quiet c p).phase
command-clear quiet Command.Rst p k q = settles-clear quiet (owes_answer p.phase) q
command-clear quiet Command.Rrp p k q = k
command-clear quiet c p k q = other-clear quiet c p (λ r. refl) k

-- Slots: where they are quiet after a step that empties none, they were.

was-quiet : (slots now : LinkSlots) → ((link : ℕ) → slot_at now link ≡ Empty → slot_at slots link ≡ Empty) → is_quiet now ≡ true → is_quiet slots ≡ true
was-quiet slots now f q = (is_quiet-tells slots).1 (λ link a b. f link ((is_quiet-tells now).0 q link a b))

with-quiet : (slots : LinkSlots) (on : ℕ) (slot : LinkSlot) → (slot ≡ Empty → slot_at slots on ≡ Empty) → is_quiet (with_slot slots on slot) ≡ true → is_quiet slots ≡ true
with-quiet slots on slot f = was-quiet slots (with_slot slots on slot) each
  where
    each : (link : ℕ) → slot_at (with_slot slots on slot) link ≡ Empty → slot_at slots link ≡ Empty
    each link e = elim (eqb_tells link on) [
      | inl same ↦ ap (slot_at slots) same.1 ∙ f (sym (slot_at-with_slot_same slots on slot) ∙ ap (slot_at (with_slot slots on slot)) (sym same.1) ∙ e)
      | inr apart ↦ sym (slot_at-with_slot_other slots on slot link apart.1) ∙ e
    ]

woken-quiet : (slots : LinkSlots) → is_quiet (all_woken slots) ≡ true → is_quiet slots ≡ true
woken-quiet slots = was-quiet slots (all_woken slots) (λ link e. was (slot_at slots link) (sym (slot_at-all_woken slots link) ∙ e))
  where
    was : (slot : LinkSlot) → woken slot ≡ Empty → slot ≡ Empty
    was Empty e = refl
    was (Ready m) e = e
    was (Travelling m) e = e
    was (Held m) e = absurd (cc)

-- Each note.

pair-settled : (pair : Pair) (call : PairCall) (s : PeerState) → Settled s → Settled (state_calls pair call s)
pair-settled pair call s k = λ q. up-clear (happened_at pair call s.peer).made s.peer (calls_up pair call s.peer) refl (k q)

called-settled : (asked : Option (ℕ × Asked)) (s : PeerState) → Settled s → Settled (state_asked asked s)
called-settled None s k = k
called-settled (Some (peer, Asks pair call)) s k = pair-settled pair call s k
called-settled (Some (peer, Asks_echo byte)) s k = λ q. up-clear (made_by_call (echo_answer byte (is_full s.peer.phase) s.peer.echoes)) s.peer (echo_called byte s.peer) refl (k q)
called-settled (Some (peer, Asks_reset)) s k = λ q. reset-clear (is_quiet s.slots) s.peer (k q) q
called-settled (Some (peer, Asks_wake)) s k = λ q. k (woken-quiet s.slots q)

heard-settled : (cs : List Command) (s : PeerState) → Settled s → Settled (state_hears_all cs s)
heard-settled [] s k = k
heard-settled (c ∷ cs) s k = heard-settled cs (state_hears c s) (λ q. command-clear (is_quiet s.slots) c s.peer (k q) q)

last-settled : (fault : Option CommandFault) (s : PeerState) → Settled s → Settled (hears_last fault s)
last-settled None s k = k
last-settled (Some fault) s k = λ q. up-clear (Command.Err fault.code fault.bytes ∷ []) s.peer (makes (Command.Err fault.code fault.bytes ∷ []) s.peer) refl (k q)

message-settled : (on : ℕ) (bits : List Bool) (o : Result Message MessageFault) (s : PeerState) → Settled s → Settled (message_after on bits o s)
message-settled on bits (Err fault) s k = k
message-settled on bits (Ok m) s k = go (is_wrong_link on) (on == control_link)
  where
    control : (b : Bool) → Settled (if b then hears_last (fault_in (bytes_of m.text)) (state_hears_all (commands_in (bytes_of m.text)) s) else record s { counts = record s.counts { wrong_size = one_more s.counts.wrong_size } })
    control true = last-settled (fault_in (bytes_of m.text)) (state_hears_all (commands_in (bytes_of m.text)) s) (heard-settled (commands_in (bytes_of m.text)) s k)
    control false = k

    go : (a b : Bool) → Settled (if a then record s { counts = record s.counts { wrong_link = one_more s.counts.wrong_link } } else if b then state_after_control m s else state_after_text on (take 72 bits) m s)
    go true b = k
    go false true = control (m.size == control_size)
    go false false = λ q. up-clear (made_by_text (take 72 bits) m.text (answer (text_in on m.size m.text s.peer.ends))) s.peer (takes_text on (take 72 bits) m.size m.text s.peer) refl (k q)

bits-settled : (o : Result Leader Short) (bits : List Bool) (s : PeerState) → Settled s → Settled (bits_for o bits s)
bits-settled (Err short) bits s k = k
bits-settled (Ok leader) bits s k = message-settled leader.link bits (message_in bits) s k

taken-settled : (on : ℕ) (how : Answer) (s : PeerState) → Settled s → Settled (answer_taken on how s)
taken-settled on Rfnm s k = λ q. settles-clear (is_quiet (answer_taken on Rfnm s).slots) (frees_on on s.peer).phase q
taken-settled on Incomplete s k = λ q. k (with-quiet s.slots on (answered Incomplete (slot_at s.slots on)) (was (slot_at s.slots on)) q)
  where
    was : (slot : LinkSlot) → answered Incomplete slot ≡ Empty → slot ≡ Empty
    was Empty e = refl
    was (Ready m) e = e
    was (Travelling m) e = absurd (cc)
    was (Held m) e = e
taken-settled on Dead s k = λ q. k (with-quiet s.slots on (answered Dead (slot_at s.slots on)) (was (slot_at s.slots on)) q)
  where
    was : (slot : LinkSlot) → answered Dead slot ≡ Empty → slot ≡ Empty
    was Empty e = refl
    was (Ready m) e = e
    was (Travelling m) e = absurd (cc)
    was (Held m) e = e

answer-settled : (on : ℕ) (how : Answer) (s : PeerState) → Settled s → Settled (answer_comes on how s)
answer-settled on how s k = go (is_answered on s)
  where
    go : (b : Bool) → Settled (if b then answer_taken on how s else record s { counts = record s.counts { stray = one_more s.counts.stray } })
    go true = taken-settled on how s k
    go false = k

out-settled : (o : Result Leader Short) (message : List Bool) (s : PeerState) → Settled s → Settled (out_for o message s)
out-settled (Err short) message s k = k
out-settled (Ok leader) message s k = λ q. by (slot_at s.slots leader.link) (k (with-quiet s.slots leader.link (Travelling message) (λ e. absurd (cc e)) q))
  where
    made : (b : Bool) → Clear s.peer.phase → Clear (if b then peer_sends s.peer else cuts leader.link s.peer).phase
    made true c = c
    made false c = c

    by : (slot : LinkSlot) → Clear s.peer.phase → Clear (after_by slot leader.link s.peer).phase
    by Empty c = made (leader.link == control_link) c
    by (Ready m) c = c
    by (Travelling m) c = c
    by (Held m) c = c

note-settled : (note : HostNote) (s : PeerState) → Settled s → Settled (note_for note s)
note-settled (HostNote.Done call) s k = called-settled (asked_in call) s k
note-settled (HostNote.Took peer pair bytes text) s k = pair-settled pair (Take bytes) s k
note-settled (HostNote.Out message) s k = out-settled (leader_in message) message s k
note-settled (HostNote.In message received) s k = bits-settled (leader_in message) message s k
note-settled (HostNote.Answered peer link how received) s k = answer-settled link how s k
note-settled other s k = k

run-settled : (all : List HostNote) (s : PeerState) → Settled s → Settled (notes_for all s)
run-settled [] s k = k
run-settled (note ∷ rest) s k = run-settled rest (note_for note s) (note-settled note s k)

counterpart : (a b : Bool) → a ≡ false → a ≡ not b → b ≡ true
counterpart a true e f = refl
counterpart a false e f = absurd (cc)

pub settled-noted : (me : ℕ) (ns : List ℕ) (all : List HostNote) (n : ℕ) → FromBeginning me ns all → is_one_of n ns ≡ true → list_all (λ on. is_quiet_noted (noted_on on (notes_of_peer n all))) data_links ≡ true
    → ((made_of (notes_of_peer n all)).gave_answer ≡ true) × ((made_of (notes_of_peer n all)).did_reset ≡ true)
settled-noted me ns all n from peer quiet =
    let s = notes_for (notes_of_peer n all) new_state in
    let there : state_of (after_notes all (new_host me ns)) n ≡ Some s = (each_peer me ns all n from peer).state in
    let q : is_quiet s.slots ≡ true = quiet_as_noted me ns all n s from there ∙ quiet in
    let c : Clear s.peer.phase = run-settled (notes_of_peer n all) new_state (λ e. (refl, refl)) q in
    let f = flags-noted me ns all n s from there in
    let l = made_of (notes_of_peer n all) in
    (counterpart s.peer.phase.owe l.gave_answer c.1 f.3, counterpart s.peer.phase.want l.did_reset c.0 f.1)
