-- The notes of each peer are a run of what is kept for it.
use Rattle.std.proofs.Common.{◌≡◌, ℕ, ◌==◌, Bool, true, false, if◌then◌else◌, List, [], ◌∷◌, Option, None, Some, Result, Ok, Err, take, inl, inr, refl, sym, ap, ◌∙◌, subst}
use Rattle.std.proofs.lemmas.Bool.Decides.{eqb_tells}
use Rattle.ncp_leader.specs.declared.leader.Leader.{Leader}
use Rattle.ncp_leader.specs.declared.leader.Short.{Short}
use Rattle.ncp_leader.specs.declared.fault.MessageFault.{MessageFault}
use Rattle.ncp_leader.specs.Leader.{leader_in}
use Rattle.ncp_leader.specs.Message.{Message, message_in}
use Rattle.ncp_wire.specs.declared.command.Command.{Command}
use Rattle.ncp_wire.specs.declared.fault.CommandFault.{CommandFault}
use Rattle.ncp_control.specs.Reading.{commands_in, fault_in}
use Rattle.ncp_numbers.specs.Bytes.{bytes_of}
use Rattle.ncp_slot.specs.declared.slot.Slot.TheVariants.{Empty, Ready, Travelling, Held}
use Rattle.ncp_wire.specs.declared.answer.Answer.{Answer}
use Rattle.ncp_wire.specs.declared.answer.Answer.TheVariants.{Rfnm, Incomplete, Dead}
use Rattle.ncp_slot.specs.Slot.{kept_message, answered, woken}
use Rattle.ncp_slot.specs.Slots.{LinkSlot, LinkSlots, slot_at, with_slot}
use Rattle.ncp_slot.proofs.Places.{slot_at-with_slot_same, slot_at-with_slot_other}
use Rattle.ncp_slot.proofs.Waking.{slot_at-all_woken}
use Rattle.ncp_peer.specs.Counting.{one_more}
use Rattle.ncp_peer.specs.PeerState.{PeerState, control_link, is_answered, answer_taken, answer_comes}
use Rattle.ncp_peer.specs.Hearing.{is_wrong_link, control_size, state_after_control, state_after_text, state_hears, state_hears_all, hears_last, message_after}
use Rattle.ncp_peer.specs.Output.{leader_to}
use Rattle.ncp_transcript.specs.Asked.{asked_in, Asked, Asks, Asks_echo, Asks_reset, Asks_wake}
use Rattle.ncp_transcript.specs.declared.note.HostNote.{HostNote}
use Rattle.ncp_proof_runs.specs.Peers.{state_asked, bits_for, out_for, note_for}
use Rattle.ncp_proof_runs.proofs.Said.{IsOut, IsSaidOf}
use Rattle.ncp_proof_runs.proofs.Ready.{Addressed}

-- What comes leaves the slots as they are.

all-slots : (cs : List Command) (s : PeerState) → (state_hears_all cs s).slots ≡ s.slots
all-slots [] s = refl
all-slots (c ∷ cs) s = all-slots cs (state_hears c s)

last-slots : (fault : Option CommandFault) (s : PeerState) → (hears_last fault s).slots ≡ s.slots
last-slots None s = refl
last-slots (Some fault) s = refl

pub message-slots : (on : ℕ) (bits : List Bool) (r : Result Message MessageFault) (s : PeerState) → (message_after on bits r s).slots ≡ s.slots
message-slots on bits (Err fault) s = refl
message-slots on bits (Ok m) s = by (is_wrong_link on) (on == control_link) (m.size == control_size)
  where
    control : (b : Bool) → (if b then hears_last (fault_in (bytes_of m.text)) (state_hears_all (commands_in (bytes_of m.text)) s) else record s { counts = record s.counts { wrong_size = one_more s.counts.wrong_size } }).slots ≡ s.slots
    control true = last-slots (fault_in (bytes_of m.text)) (state_hears_all (commands_in (bytes_of m.text)) s) ∙ all-slots (commands_in (bytes_of m.text)) s
    control false = refl

    by : (a b c : Bool) → (if a then record s { counts = record s.counts { wrong_link = one_more s.counts.wrong_link } } else if b then state_after_control m s else state_after_text on (take 72 bits) m s).slots ≡ s.slots
    by true b c = refl
    by false true c = control (m.size == control_size)
    by false false c = refl

-- Every message that is kept names its peer and its link, after each note.

kept-answered : (how : Answer) (slot : LinkSlot) (message : List Bool) → kept_message (answered how slot) ≡ Some message → kept_message slot ≡ Some message
kept-answered Rfnm Empty m e = e
kept-answered Rfnm (Ready k) m e = e
kept-answered Rfnm (Travelling k) m e = absurd (cc)
kept-answered Rfnm (Held k) m e = e
kept-answered Incomplete Empty m e = e
kept-answered Incomplete (Ready k) m e = e
kept-answered Incomplete (Travelling k) m e = e
kept-answered Incomplete (Held k) m e = e
kept-answered Dead Empty m e = e
kept-answered Dead (Ready k) m e = e
kept-answered Dead (Travelling k) m e = e
kept-answered Dead (Held k) m e = e

kept-woken : (slot : LinkSlot) (message : List Bool) → kept_message (woken slot) ≡ Some message → kept_message slot ≡ Some message
kept-woken Empty m e = e
kept-woken (Ready k) m e = e
kept-woken (Travelling k) m e = e
kept-woken (Held k) m e = e

addressed-with : (n on : ℕ) (s t : PeerState) (slot : LinkSlot) → t.slots ≡ with_slot s.slots on slot → Addressed n s → ((message : List Bool) → kept_message slot ≡ Some message → leader_in message ≡ Ok (leader_to n on)) → Addressed n t
addressed-with n on s t slot is a f other message e = elim (eqb_tells other on) [
  | inl same ↦
      let here : slot_at t.slots other ≡ slot = ap (λ (x : LinkSlots). slot_at x other) is ∙ ap (slot_at (with_slot s.slots on slot)) same.1 ∙ slot_at-with_slot_same s.slots on slot in
      f message (sym (ap kept_message here) ∙ e) ∙ ap (λ (k : ℕ). Ok (leader_to n k)) (sym same.1)
  | inr apart ↦
      let there : slot_at t.slots other ≡ slot_at s.slots other = ap (λ (x : LinkSlots). slot_at x other) is ∙ slot_at-with_slot_other s.slots on slot other apart.1 in
      a other message (sym (ap kept_message there) ∙ e)
]

addressed-answer : (n on : ℕ) (how : Answer) (s : PeerState) → Addressed n s → Addressed n (answer_comes on how s)
addressed-answer n on how s a = go (is_answered on s)
  where
    go : (b : Bool) → Addressed n (if b then answer_taken on how s else record s { counts = record s.counts { stray = one_more s.counts.stray } })
    go true = addressed-with n on s (answer_taken on how s) (answered how (slot_at s.slots on)) refl a (λ message e. a on message (kept-answered how (slot_at s.slots on) message e))
    go false = a

addressed-same : (n : ℕ) (s t : PeerState) → t.slots ≡ s.slots → Addressed n s → Addressed n t
addressed-same n s t is a on message e = a on message (sym (ap (λ (x : LinkSlots). kept_message (slot_at x on)) is) ∙ e)

addressed-called : (n : ℕ) (asked : Option (ℕ × Asked)) (s : PeerState) → Addressed n s → Addressed n (state_asked asked s)
addressed-called n None s a = a
addressed-called n (Some (peer, Asks pair call)) s a = a
addressed-called n (Some (peer, Asks_echo byte)) s a = a
addressed-called n (Some (peer, Asks_reset)) s a = a
addressed-called n (Some (peer, Asks_wake)) s a = λ on message e. a on message (kept-woken (slot_at s.slots on) message (sym (ap kept_message (slot_at-all_woken s.slots on)) ∙ e))

addressed-out : (n : ℕ) (message : List Bool) (s : PeerState) → IsOut n message s → Addressed n s → Addressed n (out_for (leader_in message) message s)
addressed-out n message s p a =
    subst (λ (r : Result Leader Short). Addressed n (out_for r message s)) (sym p.leader)
    (addressed-with n p.on s (out_for (Ok (leader_to n p.on)) message s) (Travelling message) refl a (λ m e. let same : message ≡ m = cc in ap leader_in (sym same) ∙ p.leader))

addressed-in : (n : ℕ) (r : Result Leader Short) (bits : List Bool) (s : PeerState) → Addressed n s → Addressed n (bits_for r bits s)
addressed-in n (Err short) bits s a = a
addressed-in n (Ok leader) bits s a = addressed-same n s (message_after leader.link bits (message_in bits) s) (message-slots leader.link bits (message_in bits) s) a

pub addressed-after : (n : ℕ) (note : HostNote) (s : PeerState) → IsSaidOf n note s → Addressed n s → Addressed n (note_for note s)
addressed-after n (HostNote.Done call) s p a = addressed-called n (asked_in call) s a
addressed-after n (HostNote.Out message) s p a = addressed-out n message s p a
addressed-after n (HostNote.In message received) s p a = addressed-in n (leader_in message) message s a
addressed-after n (HostNote.Answered peer link how received) s p a = addressed-answer n link how s a
addressed-after n other s p a = a
