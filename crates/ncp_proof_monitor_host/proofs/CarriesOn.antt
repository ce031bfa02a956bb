-- The invariant of a host's state for a peer is preserved by each call, and by each message received or
-- sent.
use Rattle.std.proofs.Common.{◌≡◌, ℕ, ◌==◌, Bool, true, false, ◌||◌, if◌then◌else◌, List, [], ◌∷◌, take, Option, None, Some, Result, Ok, Err, inl, inr, refl, sym, ap, ◌∙◌, subst}
use Rattle.std.specs.FinMap.{get, get-empty}
use Rattle.std.proofs.lemmas.Bool.{eqb-true}
use Rattle.std.proofs.lemmas.Bool.Decides.{eqb_tells}
use Rattle.ncp_numbers.specs.Bytes.{bytes_of}
use Rattle.ncp_leader.specs.declared.fault.MessageFault.{MessageFault}
use Rattle.ncp_leader.specs.declared.regular.TheConstants.{FRONT_BITS}
use Rattle.ncp_leader.specs.Message.{Message}
use Rattle.ncp_wire.specs.declared.command.Command.{Command}
use Rattle.ncp_wire.specs.declared.command.Command.TheVariants.{Rst, Rrp}
use Rattle.ncp_wire.specs.declared.fault.CommandFault.{CommandFault}
use Rattle.ncp_wire.specs.declared.answer.Answer.{Answer}
use Rattle.ncp_wire.specs.declared.answer.Answer.TheVariants.{Rfnm, Incomplete, Dead}
use Rattle.ncp_control.specs.Reading.{commands_in, fault_in}
use Rattle.ncp_slot.specs.declared.slot.Slot.{Slot}
use Rattle.ncp_slot.specs.Slot.{is_empty, is_travelling, answered}
use Rattle.ncp_slot.specs.Slots.{LinkSlot, LinkSlots, slot_at, with_slot, all_woken, is_quiet, data_links}
use Rattle.ncp_slot.proofs.Places.{slot_at-with_slot_same, slot_at-with_slot_other}
use Rattle.ncp_slot.proofs.Waking.{slot_at-all_woken}
use Rattle.ncp_model.specs.declared.pair.Pair.{Pair}
use Rattle.ncp_model.specs.Pairs.{pair_cmp}
use Rattle.ncp_model.specs.Effect.{Effect, answer, end_after}
use Rattle.ncp_model.specs.Ends.{Ends, demux_command, hear, cut_in, map_after, map_after_at, no_ends}
use Rattle.ncp_model.specs.EndpointEvents.{EndpointEvent, happens}
use Rattle.ncp_model.specs.Phase.{up, phase_hears}
use Rattle.ncp_model.specs.Sending.{next_commands}
use Rattle.ncp_model.specs.Peers.{Peer, reaction, hears, hears_other, frees, peer_sends, cuts}
use Rattle.ncp_proof_endpoint.specs.Sound.{SoundAt}
use Rattle.ncp_proof_endpoint.proofs.SoundEnds.{sound-after}
use Rattle.ncp_proof_machine.proofs.EndsGood.{changed-each, act-changes}
use Rattle.ncp_peer.specs.PeerState.{PeerState, new_state, control_link, frees_on, after_answer, is_answered, answer_taken, answer_comes}
use Rattle.ncp_peer.specs.Counting.{one_more}
use Rattle.ncp_peer.specs.Hearing.{state_hears, state_hears_all, hears_last, state_hears_text, control_size, state_after_control, state_after_text, is_wrong_link, message_after}
use Rattle.ncp_peer.specs.Output.{links, control_message, text_message, output_by, after_by, after_output}
use Rattle.ncp_host.specs.Host.{is_one_of}
use Rattle.ncp_peer.specs.Soundness.{Agree}
use Rattle.ncp_transcript.specs.Asked.{Asked, Asks, Asks_echo, Asks_reset, Asks_wake}
use Rattle.ncp_proof_runs.specs.Peers.{state_asked}
use Rattle.ncp_proof_monitor.proofs.HostSlots.{empty_woken}
use Rattle.ncp_proof_monitor.proofs.Fresh.{in_all}
use Rattle.ncp_proof_monitor.proofs.PhaseSeen.{travelling}
use Rattle.ncp_proof_monitor_host.proofs.BusySlots.{FillsNone}
use Rattle.ncp_proof_monitor_host.proofs.Borne.{SoundEnds, Borne, QuietReports, by_command, none_sexes, none_leaving, calls_borne, echo_borne, reset_borne, hears_borne, fault_borne, text_borne, slots_borne, settles_borne, frees_borne, sends_borne, cuts_borne}
use Rattle.ncp_proof_monitor_host.proofs.Carries.{Carries}

-- only links that are used have a message
abbrev pub LinksUsed : LinkSlots → Type 0
LinksUsed slots = (on : ℕ) → is_empty (slot_at slots on) ≡ false → is_one_of on links ≡ true

on_data : (on : ℕ) → ((on ≡ 0) → ⊥) → is_one_of on links ≡ true → is_one_of on data_links ≡ true
on_data on d h = go (control_link == on) refl h
  where
    go : (b : Bool) → (control_link == on) ≡ b → (b || is_one_of on data_links) ≡ true → is_one_of on data_links ≡ true
    go true g h = absurd (d (sym (eqb-true control_link on g)))
    go false g h = h

pub quiet_reports : (slots : LinkSlots) → LinksUsed slots → QuietReports (is_quiet slots) slots
unfolding is_quiet
quiet_reports slots used q on d = go (is_empty (slot_at slots on)) refl
  where
    go : (b : Bool) → is_empty (slot_at slots on) ≡ b → is_empty (slot_at slots on) ≡ true
    go true e = e
    go false e = in_all (λ (k : ℕ). is_empty (slot_at slots k)) data_links on q (on_data on d (used on e))

-- ---- the ends stay sound

sound_none : SoundEnds no_ends
sound_none pair = subst (SoundAt pair) (sym (get-empty pair_cmp pair)) tt

sound_looked : {A : Type 0} → (m : Ends) (o : Option Pair) (act : Effect A) → ((pair : Pair) → o ≡ Some pair → (what : EndpointEvent) × ((happens pair what (get m pair)).after ≡ end_after (get m pair) act)) → SoundEnds m → SoundEnds (map_after_at m o act)
sound_looked m None act f k = k
sound_looked m (Some pair) act f k = let w = f pair refl in changed-each SoundAt m (map_after m pair act) pair w.0 (act-changes m pair w.0 act w.1) (λ s. sound-after pair w.0 (get m pair) s) k

sound_other : (quiet : Bool) (c : Command) (p : Peer) → SoundEnds p.ends → SoundEnds (if up p.phase then hears_other quiet c p else p).ends
sound_other quiet c p k = go (up p.phase) (up (phase_hears c (reaction quiet c p) p.phase))
  where
    go : (a b : Bool) → SoundEnds (if a then record (hears_other quiet c p) { ends = if b then map_after_at p.ends (demux_command c p.ends) (hear c p.ends) else no_ends } else p).ends
    go true true = sound_looked p.ends (demux_command c p.ends) (hear c p.ends) (λ pair e. by_command c p.ends pair e) k
    go true false = sound_none
    go false b = k

pub hears_sound : (quiet : Bool) (c : Command) (p : Peer) → SoundEnds p.ends → SoundEnds (hears quiet c p).ends
hears_sound quiet Rst p k = sound_none
hears_sound quiet Rrp p k = k
hears_sound quiet c p k = sound_other quiet c p k

-- ---- calls

asked_borne : (o : Option (ℕ × Asked)) (s : PeerState) → SoundEnds s.peer.ends → LinksUsed s.slots → Borne s.peer s.slots → Borne (state_asked o s).peer (state_asked o s).slots
asked_borne None s sound used k = k
asked_borne (Some (peer, Asks pair call)) s sound used k = calls_borne pair call s.peer s.slots sound k
asked_borne (Some (peer, Asks_echo byte)) s sound used k = echo_borne byte s.peer s.slots k
asked_borne (Some (peer, Asks_reset)) s sound used k = reset_borne (is_quiet s.slots) s.peer s.slots (quiet_reports s.slots used) k
asked_borne (Some (peer, Asks_wake)) s sound used k = slots_borne s.peer s.slots (all_woken s.slots) (λ on d e. sym (empty_woken (slot_at s.slots on)) ∙ ap is_empty (sym (slot_at-all_woken s.slots on)) ∙ e) k

-- ---- a message comes

all_borne : (cs : List Command) (s : PeerState) → SoundEnds s.peer.ends → LinksUsed s.slots → Borne s.peer s.slots → Borne (state_hears_all cs s).peer (state_hears_all cs s).slots
all_borne [] s sound used k = k
all_borne (c ∷ cs) s sound used k =
    all_borne cs (state_hears c s) (hears_sound (is_quiet s.slots) c s.peer sound) used (hears_borne (is_quiet s.slots) c s.peer s.slots (quiet_reports s.slots used) sound k)

last_borne : (o : Option CommandFault) (s : PeerState) → Borne s.peer s.slots → Borne (hears_last o s).peer (hears_last o s).slots
last_borne None s k = k
last_borne (Some fault) s k = fault_borne fault s.peer s.slots k

message_borne : (on : ℕ) (bits : List Bool) (r : Result Message MessageFault) (s : PeerState) → SoundEnds s.peer.ends → LinksUsed s.slots → Borne s.peer s.slots → Borne (message_after on bits r s).peer (message_after on bits r s).slots
message_borne on bits (Err fault) s sound used k = k
message_borne on bits (Ok m) s sound used k = go (is_wrong_link on) (on == control_link)
  where
    control : (b : Bool)
        → Borne (if b then state_hears_text (commands_in (bytes_of m.text)) (fault_in (bytes_of m.text)) s else record s { counts = record s.counts { wrong_size = one_more s.counts.wrong_size } }).peer
        (if b then state_hears_text (commands_in (bytes_of m.text)) (fault_in (bytes_of m.text)) s else record s { counts = record s.counts { wrong_size = one_more s.counts.wrong_size } }).slots
    control true = last_borne (fault_in (bytes_of m.text)) (state_hears_all (commands_in (bytes_of m.text)) s) (all_borne (commands_in (bytes_of m.text)) s sound used k)
    control false = k

    go : (wrong zero : Bool)
        → Borne (if wrong then record s { counts = record s.counts { wrong_link = one_more s.counts.wrong_link } } else if zero then state_after_control m s else state_after_text on (take FRONT_BITS bits) m s).peer
        (if wrong then record s { counts = record s.counts { wrong_link = one_more s.counts.wrong_link } } else if zero then state_after_control m s else state_after_text on (take FRONT_BITS bits) m s).slots
    go true zero = k
    go false true = control (m.size == control_size)
    go false false = text_borne on (take FRONT_BITS bits) m.size m.text s.peer s.slots sound k

-- ---- an answer comes

emptied : (slot : LinkSlot) → is_travelling slot ≡ true → is_empty (answered Rfnm slot) ≡ true
emptied Slot.Empty e = refl
emptied (Slot.Ready m) e = absurd (cc e)
emptied (Slot.Travelling m) e = refl
emptied (Slot.Held m) e = absurd (cc e)

-- a slot that had a message has another one
filled_again : (slots : LinkSlots) (on : ℕ) (slot : LinkSlot) → is_empty (slot_at slots on) ≡ false → (by : ℕ) → is_empty (slot_at (with_slot slots on slot) by) ≡ false → is_empty (slot_at slots by) ≡ false
filled_again slots on slot was by e = elim (eqb_tells by on) [
  | inl same ↦ subst (λ (j : ℕ). is_empty (slot_at slots j) ≡ false) (sym same.1) was
  | inr other ↦ ap is_empty (sym (slot_at-with_slot_other slots on slot by other.1)) ∙ e
]

-- all others have what they had
elsewhere_filled : (slots : LinkSlots) (on : ℕ) (slot : LinkSlot) (by : ℕ) → ((by ≡ on) → ⊥) → is_empty (slot_at (with_slot slots on slot) by) ≡ false → is_empty (slot_at slots by) ≡ false
elsewhere_filled slots on slot by d e = ap is_empty (sym (slot_at-with_slot_other slots on slot by d)) ∙ e

answer_borne : (on : ℕ) (how : Answer) (s : PeerState) → SoundEnds s.peer.ends → LinksUsed s.slots → Borne s.peer s.slots → Borne (answer_comes on how s).peer (answer_comes on how s).slots
answer_borne on how s sound used k = go (is_answered on s) refl
  where
    now : Answer → LinkSlots
    now h = with_slot s.slots on (answered h (slot_at s.slots on))

    less : (h : Answer) → is_answered on s ≡ true → FillsNone s.slots (now h)
    less h t by d e = filled_again s.slots on (answered h (slot_at s.slots on)) (travelling (slot_at s.slots on) t) by e

    used_now : (h : Answer) → is_answered on s ≡ true → LinksUsed (now h)
    used_now h t by e = used by (filled_again s.slots on (answered h (slot_at s.slots on)) (travelling (slot_at s.slots on) t) by e)

    gone : is_answered on s ≡ true → is_empty (slot_at (now Rfnm) on) ≡ true
    gone t = ap is_empty (slot_at-with_slot_same s.slots on (answered Rfnm (slot_at s.slots on))) ∙ emptied (slot_at s.slots on) t

    freed : is_answered on s ≡ true → (b : Bool) → Borne (if b then s.peer else frees on s.peer) (now Rfnm)
    freed t true = slots_borne s.peer s.slots (now Rfnm) (less Rfnm t) k
    freed t false = frees_borne on s.peer s.slots (now Rfnm) sound (gone t) (λ by d e. elsewhere_filled s.slots on (answered Rfnm (slot_at s.slots on)) by d e) (less Rfnm t) k

    taken : (h : Answer) → is_answered on s ≡ true → Borne (after_answer on h (now h) s.peer) (now h)
    taken Rfnm t = settles_borne (is_quiet (now Rfnm)) (frees_on on s.peer) (now Rfnm) (quiet_reports (now Rfnm) (used_now Rfnm t)) (freed t (on == control_link))
    taken Incomplete t = slots_borne s.peer s.slots (now Incomplete) (less Incomplete t) k
    taken Dead t = slots_borne s.peer s.slots (now Dead) (less Dead t) k

    go : (b : Bool) → is_answered on s ≡ b
        → Borne (if b then answer_taken on how s else record s { counts = record s.counts { stray = one_more s.counts.stray } }).peer (if b then answer_taken on how s else record s { counts = record s.counts { stray = one_more s.counts.stray } }).slots
    go true t = taken how t
    go false t = k

-- ---- a message is sent

out_borne : (n on : ℕ) (message : List Bool) (s : PeerState) → SoundEnds s.peer.ends → output_by (slot_at s.slots on) n on s.peer ≡ Some message → Borne s.peer s.slots → Borne (after_output on message s).peer (after_output on message s).slots
out_borne n on message s sound out k = go (slot_at s.slots on) refl out
  where
    now : LinkSlots
    now = with_slot s.slots on (Slot.Travelling message)

    others : (by : ℕ) → ((by ≡ on) → ⊥) → is_empty (slot_at now by) ≡ false → is_empty (slot_at s.slots by) ≡ false
    others by d e = elsewhere_filled s.slots on (Slot.Travelling message) by d e

    some_text : (o : Option (ℕ × List Bool)) → text_message n on o ≡ Some message → (t : ℕ × List Bool) × (o ≡ Some t)
    some_text None e = absurd (cc e)
    some_text (Some t) e = (t, refl)

    made : (b : Bool) → (on == control_link) ≡ b → (if b then control_message n (next_commands s.peer.phase.waiting) else text_message n on (answer (cut_in on s.peer.ends))) ≡ Some message
        → Borne (if b then peer_sends s.peer else cuts on s.peer) now
    made true z e = slots_borne (peer_sends s.peer) s.slots now (λ by d f. others by (λ same. d (same ∙ eqb-true on control_link z)) f) (sends_borne s.peer s.slots k)
    made false z e = let t = some_text (answer (cut_in on s.peer.ends)) e in cuts_borne on s.peer s.slots now t.0 sound t.1 others k

    go : (slot : LinkSlot) → slot_at s.slots on ≡ slot → output_by slot n on s.peer ≡ Some message → Borne (after_by slot on s.peer) now
    go Slot.Empty q e = made (on == control_link) refl e
    go (Slot.Ready m) q e = slots_borne s.peer s.slots now (λ by d f. filled_again s.slots on (Slot.Travelling message) (ap is_empty q) by f) k
    go (Slot.Travelling m) q e = absurd (cc e)
    go (Slot.Held m) q e = absurd (cc e)

-- ---- with what agrees

carried : (p : Peer) (slots : LinkSlots) → Agree p.ends slots → Borne p slots → Carries p slots
carried p slots agree k = record { proper = k.proper; sexes = k.sexes; busy = k.busy; agree = agree; leaving = k.leaving }

borne : (p : Peer) (slots : LinkSlots) → Carries p slots → Borne p slots
borne p slots k = record { proper = k.proper; sexes = k.sexes; busy = k.busy; leaving = k.leaving }

pub asked_carries : (o : Option (ℕ × Asked)) (s : PeerState) → SoundEnds s.peer.ends → LinksUsed s.slots → Agree (state_asked o s).peer.ends (state_asked o s).slots → Carries s.peer s.slots → Carries (state_asked o s).peer (state_asked o s).slots
asked_carries o s sound used agree k = carried (state_asked o s).peer (state_asked o s).slots agree (asked_borne o s sound used (borne s.peer s.slots k))

pub message_carries : (on : ℕ) (bits : List Bool) (r : Result Message MessageFault) (s : PeerState) → SoundEnds s.peer.ends → LinksUsed s.slots → Agree (message_after on bits r s).peer.ends (message_after on bits r s).slots
    → Carries s.peer s.slots → Carries (message_after on bits r s).peer (message_after on bits r s).slots
message_carries on bits r s sound used agree k = carried (message_after on bits r s).peer (message_after on bits r s).slots agree (message_borne on bits r s sound used (borne s.peer s.slots k))

pub answer_carries : (on : ℕ) (how : Answer) (s : PeerState) → SoundEnds s.peer.ends → LinksUsed s.slots → Agree (answer_comes on how s).peer.ends (answer_comes on how s).slots → Carries s.peer s.slots → Carries (answer_comes on how s).peer (answer_comes on how s).slots
answer_carries on how s sound used agree k = carried (answer_comes on how s).peer (answer_comes on how s).slots agree (answer_borne on how s sound used (borne s.peer s.slots k))

pub out_carries : (n on : ℕ) (message : List Bool) (s : PeerState) → SoundEnds s.peer.ends → output_by (slot_at s.slots on) n on s.peer ≡ Some message → Agree (after_output on message s).peer.ends (after_output on message s).slots
    → Carries s.peer s.slots → Carries (after_output on message s).peer (after_output on message s).slots
out_carries n on message s sound out agree k = carried (after_output on message s).peer (after_output on message s).slots agree (out_borne n on message s sound out (borne s.peer s.slots k))

pub carries_begins : Agree new_state.peer.ends new_state.slots → Carries new_state.peer new_state.slots
carries_begins agree = record { proper = tt; sexes = none_sexes; busy = λ u. absurd (cc u); agree = agree; leaving = none_leaving }
