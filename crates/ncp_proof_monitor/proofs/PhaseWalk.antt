-- The monitor's view of a host's phases with all its peers, through sent and received messages: no rule
-- finds the host wrong.
use Rattle.std.proofs.Common.{◌≡◌, ◌≢◌, ◌⊎◌, inl, inr, ℕ, ◌*◌, ◌≤◌, ◌<◌, ◌==◌, Bool, true, false, not, ◌&&◌, ◌||◌, if◌then◌else◌, List, [], ◌∷◌, ◌++◌, length, Option, None, Some, Result, Ok, Err, option_map, option_to_list, filter, refl, sym, ap, ◌∙◌, subst, arith}
use Rattle.std.proofs.lemmas.Bool.{eqb-true}
use Rattle.std.proofs.lemmas.List.{length-replicate}
use Rattle.std.proofs.lemmas.Bool.Decides.{eqb_tells}
use Rattle.ncp_numbers.specs.Bytes.{bytes_of, bits_of_bytes}
use Rattle.ncp_numbers.proofs.Bytes.{length-bits_of_bytes}
use Rattle.ncp_leader.specs.declared.fault.MessageFault.{MessageFault}
use Rattle.ncp_leader.specs.declared.leader.Leader.{Leader}
use Rattle.ncp_leader.specs.declared.leader.Short.{Short}
use Rattle.ncp_leader.specs.Leader.{leader_in}
use Rattle.ncp_leader.specs.Message.{Message, message_in, message_with}
use Rattle.ncp_leader.proofs.Messages.{message_leader}
use Rattle.ncp_wire.specs.declared.command.Command.{Command}
use Rattle.ncp_wire.specs.declared.fault.CommandFault.{CommandFault}
use Rattle.ncp_wire.specs.declared.answer.Answer.{Answer}
use Rattle.ncp_wire.specs.declared.answer.Answer.TheVariants.{Rfnm, Incomplete, Dead}
use Rattle.ncp_wire.specs.Spelling.{spellings}
use Rattle.ncp_control.specs.Texts.{items_of}
use Rattle.ncp_control.specs.Reading.{commands_in, fault_in}
use Rattle.ncp_slot.specs.declared.slot.Slot.{Slot}
use Rattle.ncp_slot.specs.Slot.{is_empty, answered}
use Rattle.ncp_slot.specs.Slots.{LinkSlot, LinkSlots, slot_at, with_slot, is_quiet}
use Rattle.ncp_slot.proofs.Places.{slot_at-with_slot_other, slot_at-no_slots}
use Rattle.ncp_model.specs.Effect.{answer}
use Rattle.ncp_model.specs.Ends.{cut_in}
use Rattle.ncp_model.specs.Sending.{next_commands}
use Rattle.ncp_model.specs.declared.limits.TheConstants.{MAX_CONTROL}
use Rattle.ncp_model.specs.Peers.{cuts, peer_sends}
use Rattle.ncp_transcript_two.specs.Tie.{IsText}
use Rattle.ncp_transcript_two.proofs.Well.{cut-written}
use Rattle.ncp_transcript_two.proofs.Written.{read}
use Rattle.ncp_peer.specs.PeerState.{PeerState, new_state, control_link, answer_comes}
use Rattle.ncp_peer.specs.Hearing.{message_after, answer_of}
use Rattle.ncp_peer.specs.Output.{leader_to, message_to, links, control_message, text_message, output_by, after_by, after_output}
use Rattle.ncp_host.specs.Host.{Host, state_of, is_one_of, new_host}
use Rattle.ncp_host.specs.Arrivals.{received_in}
use Rattle.ncp_transcript.specs.declared.note.HostNote.{HostNote}
use Rattle.ncp_transcript.specs.After.{after_note}
use Rattle.ncp_transcript.specs.Noting.{answer_with, if_peer, note_as, note_of_bits}
use Rattle.ncp_transcript.specs.Runs.{IsHostSaid}
use Rattle.ncp_proof_runs.specs.Peers.{is_this_number, peer_of_leader, names, bits_for, out_for, note_for}
use Rattle.ncp_proof_runs.proofs.Said.{IsOut}
use Rattle.ncp_proof_runs.proofs.Ready.{link_small}
use Rattle.ncp_proof_runs.proofs.States.{done, peer_there}
use Rattle.ncp_proof_runs.proofs.PeerRuns.{message-slots}
use Rattle.ncp_proof_runs.proofs.HostRuns.{Holds, some_same, note-state}
use Rattle.ncp_monitor.specs.declared.finding.Finding.{Finding}
use Rattle.ncp_monitor.specs.declared.finding.Rule.{Rule}
use Rattle.ncp_monitor.specs.declared.finding.ItemKind.{ItemKind}
use Rattle.ncp_interface.specs.declared.sent_message.SentMessage.{SentMessage}
use Rattle.ncp_monitor.specs.declared.monitor.Monitor.{Monitor}
use Rattle.ncp_monitor.specs.declared.view.View.{View}
use Rattle.ncp_monitor.specs.declared.views.TheConstants.{VIEWS}
use Rattle.ncp_interface.specs.declared.imp_direction.ImpDirection.TheVariants.{ToImp, FromImp}
use Rattle.ncp_interface.specs.Events.{is_answer}
use Rattle.ncp_monitor.specs.Tables.{index_of, view_in, with_view}
use Rattle.ncp_monitor.specs.Views.{is_answered_too_often, new_view}
use Rattle.ncp_interface.specs.Slots.{is_of, position_of, kept_slot, same_at, gone_out, has_room, with_out, busy_link, with_answer}
use Rattle.ncp_interface.specs.Contents.{is_unused, message_class, items_said}
use Rattle.ncp_monitor.specs.Phases.{early_finding, item_findings, after_item, items_findings, after_items, missing_finding}
use Rattle.ncp_monitor.specs.Talked.{observed_flow_of}
use Rattle.ncp_monitor.specs.Judged.{new_monitor, sees, by_host, view_of, knows_zero, slot_of_link, same_of, is_fresh, out_rule, out_finding, fresh_out, changes_slot, may_pass_reset, view_after_out, monitor_after_out, monitor_after_answer, judges_coming, with_coming, after_in, turn_at, shows_all, control_findings, after_read, said_findings, after_said, record_findings, after_record}
use Rattle.ncp_monitor.proofs.Passing.{Pass, goes_said}
use Rattle.ncp_proof_monitor.proofs.Talking.{control_flow, control_parted, message_flow, Parts, text_parted}
use Rattle.ncp_monitor.proofs.Following.{Keeps, said_keeps, out_is, short_is, other_is, own_is, in_is, answer_is}
use Rattle.ncp_proof_monitor.proofs.Leaders.{apart}
use Rattle.ncp_proof_monitor.proofs.Shown.{Shows, allowed}
use Rattle.ncp_proof_monitor.proofs.HostSlots.{is_of_call, empty_woken, call_leaves, answer_here, answer_there, was}
use Rattle.ncp_proof_monitor.proofs.Linked.{Known, Follows, after_out_of, coming_keeps, no_regular}
use Rattle.ncp_proof_monitor.proofs.Fine.{PeerInvariant}
use Rattle.ncp_proof_monitor.proofs.Laid.{Whole, out_whole, weighs}
use Rattle.ncp_proof_monitor.proofs.ReadyPeers.{AllReady}
use Rattle.ncp_proof_monitor.proofs.PhaseLists.{itself, replicated}
use Rattle.ncp_proof_monitor.proofs.Fresh.{New, is_new, OnLinks, sees_busy}
use Rattle.ncp_proof_monitor.proofs.Phased.{Sees, TextClear}
use Rattle.ncp_proof_monitor.proofs.PhaseSteps.{Stands, none_heard}
use Rattle.ncp_proof_monitor.proofs.PhaseSeen.{view_same, view_other, view_length, quiet_filled, quiet_zero, Seen, stands_as, stands_suspended, stands_quiet, call_seen, message_seen, answer_seen, Out, again_out, commands_out, text_out}

-- ---- what is known of all peers

pub record AllSeen (me : ℕ) (h : Host) (monitor : Monitor) : Type 0 where
  pub long : length monitor.views ≡ VIEWS
  pub each : monitor.full ≡ false → (n : ℕ) (s : PeerState) → state_of h n ≡ Some s → Seen s (view_in monitor.views me n)

-- ---- the links that have a message

empty_after : (how : Answer) (x : LinkSlot) → is_empty (answered how x) ≡ false → is_empty x ≡ false
empty_after how Slot.Empty e = by how e
  where
    by : (how : Answer) → is_empty (answered {M = List Bool} how Slot.Empty) ≡ false → is_empty {M = List Bool} Slot.Empty ≡ false
    by Rfnm e = e
    by Incomplete e = e
    by Dead e = e
empty_after how (Slot.Ready m) e = refl
empty_after how (Slot.Travelling m) e = refl
empty_after how (Slot.Held m) e = refl

call_used : (note : HostNote) (s : PeerState) → is_of_call note ≡ true → OnLinks s → OnLinks (note_for note s)
call_used note s c a on e = elim (call_leaves note c s on) [
  | inl same ↦ a on (ap is_empty (sym same) ∙ e)
  | inr woke ↦ a on (sym (empty_woken (slot_at s.slots on)) ∙ ap is_empty (sym woke) ∙ e)
]

answer_used : (link : ℕ) (how : Answer) (s : PeerState) → OnLinks s → OnLinks (answer_comes link how s)
answer_used link how s a on e = elim (eqb_tells on link) [
  | inl same ↦ a on (subst (λ (j : ℕ). is_empty (slot_at s.slots j) ≡ false) (sym same.1)
      (empty_after how (slot_at s.slots link) (ap is_empty (sym (answer_here link how s)) ∙ subst (λ (j : ℕ). is_empty (slot_at (answer_comes link how s).slots j) ≡ false) same.1 e)))
  | inr other ↦ a on (ap is_empty (sym (answer_there link on how s other.1)) ∙ e)
]

out_used : (on : ℕ) (m : List Bool) (s : PeerState) → is_one_of on links ≡ true → OnLinks s → OnLinks (after_output on m s)
out_used on m s u a l e = elim (eqb_tells l on) [
  | inl same ↦ ap (λ (j : ℕ). is_one_of j links) same.1 ∙ u
  | inr other ↦ a l (ap is_empty (sym (slot_at-with_slot_other s.slots on (Slot.Travelling m) l other.1)) ∙ e)
]

-- ---- calls

pub call_all : (ns : List ℕ) (me : ℕ) (note : HostNote) (h : Host) (monitor : Monitor) → Holds ns h → IsHostSaid note h → is_of_call note ≡ true → AllReady h → AllSeen me h monitor → AllSeen me (after_note note h) monitor
call_all ns me note h monitor k p c ready seen = record { long = seen.long; each = each }
  where
    each : monitor.full ≡ false → (n : ℕ) (t : PeerState) → state_of (after_note note h) n ≡ Some t → Seen t (view_in monitor.views me n)
    each full n t e = let w = was ns note h n t k p e in subst (λ (x : PeerState). Seen x (view_in monitor.views me n)) (sym w.2) (by (names n note))
      where
        w : (s : PeerState) × (state_of h n ≡ Some s) × (t ≡ (if names n note then note_for note s else s))
        w = was ns note h n t k p e

        by : (b : Bool) → Seen (if b then note_for note w.0 else w.0) (view_in monitor.views me n)
        by true = let o = seen.each full n w.0 w.1 in record { stands = call_seen note w.0 (view_in monitor.views me n) c (ready n w.0 w.1).fine.good o.stands; used = call_used note w.0 c o.used }
        by false = seen.each full n w.0 w.1

-- ---- what comes

-- the views and the room are the same, and so is what is kept for each peer
still : (ns : List ℕ) (me : ℕ) (note : HostNote) (h : Host) (monitor u : Monitor) → Holds ns h → IsHostSaid note h → u.views ≡ monitor.views → u.full ≡ monitor.full
    → ((m : ℕ) (s : PeerState) → state_of h m ≡ Some s → (if names m note then note_for note s else s) ≡ s)
    → AllSeen me h monitor → AllSeen me (after_note note h) u
still ns me note h monitor u k p v f same seen = record { long = ap length v ∙ seen.long; each = each }
  where
    each : u.full ≡ false → (n : ℕ) (t : PeerState) → state_of (after_note note h) n ≡ Some t → Seen t (view_in u.views me n)
    each full n t e =
        let w = was ns note h n t k p e in
        subst (λ (x : List View). Seen t (view_in x me n)) (sym v) (subst (λ (x : PeerState). Seen x (view_in monitor.views me n)) (sym (w.2 ∙ same n w.0 w.1)) (seen.each (sym f ∙ full) n w.0 w.1))

-- bits that are no regular message of a peer
unread : (ns : List ℕ) (me : ℕ) (h : Host) (bits : List Bool) → Holds ns h → (r : Result Leader Short) → leader_in bits ≡ r → ((leader : Leader) → r ≡ Ok leader → (leader.kind == 0) ≡ true → state_of h leader.host ≡ None)
    → (m : ℕ) (s : PeerState) → state_of h m ≡ Some s → (if names m (HostNote.In bits (received_in bits h)) then note_for (HostNote.In bits (received_in bits h)) s else s) ≡ s
unread ns me h bits k (Err short) e f m s there = ap (λ (r : Result Leader Short). if is_this_number m (peer_of_leader r) then bits_for r bits s else s) e
unread ns me h bits k (Ok leader) e f m s there = ap (λ (r : Result Leader Short). if is_this_number m (peer_of_leader r) then bits_for r bits s else s) e ∙ by (leader.kind == 0) refl (leader.host == m) refl
  where
    by : (z : Bool) → (leader.kind == 0) ≡ z → (b : Bool) → (leader.host == m) ≡ b → (if is_this_number m (if z then Some leader.host else None) then message_after leader.link bits (message_in bits) s else s) ≡ s
    by false z b e = refl
    by true z true e =
        let nay : None ≡ Some s = sym (f leader refl z) ∙ ap (state_of h) (eqb-true leader.host m e) ∙ there in
        absurd (cc)
    by true z false e = ap (λ (b : Bool). if b then message_after leader.link bits (message_in bits) s else s) e

pub said_long : (A : Monitor) (me n by : ℕ) (sent fresh : Bool) (r : Result Message MessageFault) → length (after_said A me n (turn_at A me n by sent) fresh r).views ≡ length A.views
said_long A me n by sent true (Ok m) = view_length A.views me n (after_read (message_class m) (turn_at A me n by sent) m.text (view_of A me n))
said_long A me n by sent false (Ok m) = refl
said_long A me n by sent fresh (Err fault) = refl

pub said_other : (A : Monitor) (me n m by : ℕ) (sent fresh : Bool) (r : Result Message MessageFault) → m ≢ n → view_in (after_said A me n (turn_at A me n by sent) fresh r).views me m ≡ view_in A.views me m
said_other A me n m by sent true (Ok x) d = view_other A.views me n m (after_read (message_class x) (turn_at A me n by sent) x.text (view_of A me n)) d
said_other A me n m by sent false (Ok x) d = refl
said_other A me n m by sent fresh (Err fault) d = refl

pub not_full : (t f : Bool) → t ≡ true → f ≡ false → (t && not f) ≡ true
not_full true false t f = refl
not_full true true t f = absurd (cc)
not_full false f t g = absurd (cc)

-- a regular message of another host
coming_all : (ns : List ℕ) (me : ℕ) (h : Host) (monitor : Monitor) (bits : List Bool) (leader : Leader) → Holds ns h → me < 256 → IsHostSaid (HostNote.In bits (received_in bits h)) h → leader_in bits ≡ Ok leader → (leader.host == me) ≡ false → (leader.kind == 0) ≡ true
    → Follows me h monitor → AllSeen me h monitor
    → AllSeen me (after_note (HostNote.In bits (received_in bits h)) h) (after_said (after_in (sees monitor me) me leader.host leader.link) me leader.host (turn_at (after_in (sees monitor me) me leader.host leader.link) me leader.host leader.host false) true (message_in bits))
coming_all ns me h monitor bits leader k l p led away zero follows seen = record { long = said_long A me n n false true (message_in bits) ∙ ap length views ∙ seen.long; each = each }
  where
    n : ℕ
    n = leader.host

    A : Monitor
    A = after_in (sees monitor me) me n leader.link

    now : Monitor
    now = after_said A me n (turn_at A me n n false) true (message_in bits)

    note : HostNote
    note = HostNote.In bits (received_in bits h)

    views : A.views ≡ monitor.views
    views = go (judges_coming (sees monitor me) me n)
      where
        go : (b : Bool) → (if b then record (sees monitor me) { kept = with_coming monitor.kept (position_of n me leader.link monitor.kept) } else sees monitor me).views ≡ monitor.views
        go true = refl
        go false = refl

    room : A.full ≡ monitor.full
    room = go (judges_coming (sees monitor me) me n)
      where
        go : (b : Bool) → (if b then record (sees monitor me) { kept = with_coming monitor.kept (position_of n me leader.link monitor.kept) } else sees monitor me).full ≡ monitor.full
        go true = refl
        go false = refl

    each : now.full ≡ false → (m : ℕ) (t : PeerState) → state_of (after_note note h) m ≡ Some t → Seen t (view_in now.views me m)
    each full m t e = go (was ns note h m t k p e)
      where
        open_before : monitor.full ≡ false
        open_before = sym room ∙ sym (said_keeps A me n (turn_at A me n n false) true (message_in bits)).1 ∙ full

        go : (s : PeerState) × (state_of h m ≡ Some s) × (t ≡ (if names m note then note_for note s else s)) → Seen t (view_in now.views me m)
        go w = by (eqb_tells n m)
          where
            s : PeerState
            s = w.0

            o : Seen s (view_in monitor.views me m)
            o = seen.each open_before m s w.1

            become : t ≡ (if n == m then message_after leader.link bits (message_in bits) s else s)
            become =
                w.2 ∙ ap (λ (r : Result Leader Short). if is_this_number m (peer_of_leader r) then bits_for r bits s else s) led
                ∙ ap (λ (z : Bool). if is_this_number m (if z then Some n else None) then message_after leader.link bits (message_in bits) s else s) zero

            here : n ≡ m → (n == m) ≡ true → Seen t (view_in now.views me m)
            here same eq =
                subst (λ (x : PeerState). Seen x (view_in now.views me m)) (sym (become ∙ ap (λ (b : Bool). if b then message_after leader.link bits (message_in bits) s else s) eq))
                (subst (λ (j : ℕ). Seen (message_after leader.link bits (message_in bits) s) (view_in now.views me j)) same (said (message_in bits) refl))
              where
                there : state_of h n ≡ Some s
                there = ap (state_of h) same ∙ w.1

                small : n < 256
                small = (k.good n s there).0

                v : View
                v = view_in A.views me n

                at_n : Stands s.peer (is_quiet s.slots) v
                at_n = subst (λ (x : List View). Stands s.peer (is_quiet s.slots) (view_in x me n)) (sym views) (subst (λ (j : ℕ). Stands s.peer (is_quiet s.slots) (view_in monitor.views me j)) (sym same) o.stands)

                of_n : Stands s.peer (is_quiet s.slots) (view_of A me n)
                of_n = stands_as s.peer (is_quiet s.slots) v v.suspended v.overlapped (v.told && not A.full) refl (not_full v.told A.full at_n.phased.told (room ∙ open_before)) at_n

                busy : Sees (is_quiet s.slots) (busy_link me n A.kept)
                busy = sees_busy me n A.kept s ((coming_keeps me h (sees monitor me) n leader.link away follows (room ∙ open_before)).agrees n s there) o.used

                used_after : (r : Result Message MessageFault) → OnLinks (message_after leader.link bits r s)
                used_after r on x = o.used on (ap is_empty (sym (ap (λ (z : LinkSlots). slot_at z on) (message-slots leader.link bits r s))) ∙ x)

                said : (r : Result Message MessageFault) → message_in bits ≡ r → Seen (message_after leader.link bits (message_in bits) s) (view_in now.views me n)
                said (Err fault) f =
                    subst (λ (r : Result Message MessageFault). Seen (message_after leader.link bits r s) (view_in (after_said A me n (turn_at A me n n false) true r).views me n)) (sym f)
                    (record { stands = at_n; used = used_after (Err fault) })
                said (Ok x) f =
                    subst (λ (r : Result Message MessageFault). Seen (message_after leader.link bits r s) (view_in (after_said A me n (turn_at A me n n false) true r).views me n)) (sym f)
                    (record { stands = read_on; used = used_after (Ok x) })
                  where
                    link : x.leader.link ≡ leader.link
                    link =
                        let ok : Ok x.leader ≡ Ok leader = sym (message_leader bits x f) ∙ led in
                        let is : x.leader ≡ leader = cc in
                        ap (λ (l : Leader). l.link) is

                    after : View
                    after = after_read (message_class x) (record { by = n; sent = false; busy = busy_link me n A.kept; zero = knows_zero A me n }) x.text (view_of A me n)

                    read_on : Stands (message_after leader.link bits (Ok x) s).peer (is_quiet (message_after leader.link bits (Ok x) s).slots) (view_in (after_said A me n (turn_at A me n n false) true (Ok x)).views me n)
                    read_on =
                        subst (λ (u : View). Stands (message_after leader.link bits (Ok x) s).peer (is_quiet (message_after leader.link bits (Ok x) s).slots) u) (sym (view_same A.views me n after (ap length views ∙ seen.long) l small))
                        (subst (λ (j : ℕ). Stands (message_after j bits (Ok x) s).peer (is_quiet (message_after j bits (Ok x) s).slots) after) link (message_seen n (busy_link me n A.kept) (knows_zero A me n) bits x s (view_of A me n) busy of_n))

            elsewhere : n ≢ m → (n == m) ≡ false → Seen t (view_in now.views me m)
            elsewhere d eq =
                subst (λ (x : PeerState). Seen x (view_in now.views me m)) (sym (become ∙ ap (λ (b : Bool). if b then message_after leader.link bits (message_in bits) s else s) eq))
                (subst (λ (u : View). Seen s u) (sym (said_other A me n m n false true (message_in bits) (λ e. d (sym e)) ∙ ap (λ (x : List View). view_in x me m) views)) o)

            by : (((n == m) ≡ true) × (n ≡ m)) ⊎ (((n == m) ≡ false) × (n ≢ m)) → Seen t (view_in now.views me m)
            by (inl same) = here same.1 same.0
            by (inr other) = elsewhere other.1 other.0

-- an answer of a peer
answer_all : (ns : List ℕ) (me : ℕ) (h : Host) (monitor u : Monitor) (bits : List Bool) (leader : Leader) (note : HostNote) → Holds ns h → IsHostSaid note h → note ≡ HostNote.Answered leader.host leader.link (answer_of leader.kind) (received_in bits h)
    → u.views ≡ monitor.views → u.full ≡ monitor.full → AllSeen me h monitor → AllSeen me (after_note note h) u
answer_all ns me h monitor u bits leader note k p is v f seen = record { long = ap length v ∙ seen.long; each = each }
  where
    each : u.full ≡ false → (n : ℕ) (t : PeerState) → state_of (after_note note h) n ≡ Some t → Seen t (view_in u.views me n)
    each full n t e =
        let w = was ns note h n t k p e in
        subst (λ (x : List View). Seen t (view_in x me n)) (sym v)
        (subst (λ (x : PeerState). Seen x (view_in monitor.views me n)) (sym (w.2 ∙ ap (λ (x : HostNote). if names n x then note_for x w.0 else w.0) is)) (by w.0 (leader.host == n) (seen.each (sym f ∙ full) n w.0 w.1)))
      where
        by : (s : PeerState) (b : Bool) → Seen s (view_in monitor.views me n) → Seen (if b then answer_comes leader.link (answer_of leader.kind) s else s) (view_in monitor.views me n)
        by s true o = record { stands = answer_seen leader.link (answer_of leader.kind) s (view_in monitor.views me n) o.used o.stands; used = answer_used leader.link (answer_of leader.kind) s o.used }
        by s false o = o

pub in_all : (ns : List ℕ) (me : ℕ) (h : Host) (monitor : Monitor) (bits : List Bool) (note : HostNote) → Holds ns h → is_one_of me ns ≡ false → me < 256 → IsHostSaid note h → note ≡ note_of_bits bits h
    → Follows me h monitor → AllSeen me h monitor → AllSeen me (after_note note h) (after_record monitor FromImp me bits)
in_all ns me h monitor bits note k away small p is follows seen = go (leader_in bits) refl
  where
    v : Monitor
    v = sees monitor me

    now : Host
    now = after_note note h

    counterpart : (after : Monitor) → after_record monitor FromImp me bits ≡ after → AllSeen me now after → AllSeen me now (after_record monitor FromImp me bits)
    counterpart after e g = subst (λ (u : Monitor). AllSeen me now u) (sym e) g

    plain : (u : Monitor) → u.views ≡ monitor.views → u.full ≡ monitor.full → note ≡ HostNote.In bits (received_in bits h) → (r : Result Leader Short) → leader_in bits ≡ r → ((leader : Leader) → r ≡ Ok leader → (leader.kind == 0) ≡ true → state_of h leader.host ≡ None) → AllSeen me now u
    plain u a b e r led none =
        subst (λ (x : HostNote). AllSeen me (after_note x h) u) (sym e)
        (still ns me (HostNote.In bits (received_in bits h)) h monitor u k (subst (λ (x : HostNote). IsHostSaid x h) e p) a b (unread ns me h bits k r led none) seen)

    not_regular : (leader : Leader) → (leader.kind == 0) ≡ false → (other : Leader) → ◌≡◌ {A = Result Leader Short} (Ok leader) (Ok other) → (other.kind == 0) ≡ true → state_of h other.host ≡ None
    not_regular leader z other e y =
        let same : leader ≡ other = cc in
        let nay : false ≡ true = sym z ∙ ap (λ (x : Leader). x.kind == 0) same ∙ y in
        absurd (cc)

    answer_views : (kind n on : ℕ) → (monitor_after_answer v kind me n on).views ≡ monitor.views
    answer_views kind n on = by monitor.full
      where
        by : (b : Bool) → (if b then v else record v { kept = with_answer (view_in monitor.views me n).known kind monitor.kept (position_of me n on monitor.kept) }).views ≡ monitor.views
        by true = refl
        by false = refl

    answer_room : (kind n on : ℕ) → (monitor_after_answer v kind me n on).full ≡ monitor.full
    answer_room kind n on = by monitor.full
      where
        by : (b : Bool) → (if b then v else record v { kept = with_answer (view_in monitor.views me n).known kind monitor.kept (position_of me n on monitor.kept) }).full ≡ monitor.full
        by true = refl
        by false = refl

    -- the host itself is no peer
    no_peer : (leader : Leader) → (leader.host == me) ≡ true → state_of h leader.host ≡ None
    no_peer leader own = by (state_of h leader.host) refl
      where
        by : (o : Option PeerState) → state_of h leader.host ≡ o → state_of h leader.host ≡ None
        by None e = e
        by (Some s) e =
            let here : is_one_of leader.host ns ≡ true = ap (is_one_of leader.host) (sym k.numbers) ∙ peer_there h.peers leader.host s e in
            let nay : true ≡ false = sym own ∙ apart me leader.host ns away here in
            absurd (cc)

    by : (leader : Leader) → leader_in bits ≡ Ok leader → (b : Bool) → (leader.host == me) ≡ b → (z : Bool) → (leader.kind == 0) ≡ z → (x : Bool) → is_answer leader.kind ≡ x → (o : Option PeerState) → state_of h leader.host ≡ o
        → note ≡ note_as (if x then if_peer o leader else None) bits (received_in bits h)
        → AllSeen me now (after_record monitor FromImp me bits)
    by leader led b own true zero true answer o there e = let nay : true ≡ false = sym zero ∙ no_regular leader.kind answer in absurd (cc)
    by leader led b own false zero false answer o there e = counterpart v (other_is monitor me bits leader b led own zero answer) (plain v refl refl e (Ok leader) led (not_regular leader zero))
    by leader led true own true zero false answer o there e =
        counterpart v (own_is monitor me bits leader true false led own zero answer)
        (plain v refl refl e (Ok leader) led (λ other q y. let same : leader ≡ other = cc in ap (λ (x : Leader). state_of h x.host) (sym same) ∙ no_peer leader own))
    by leader led false own true zero false answer o there e =
        subst (λ (u : Monitor). AllSeen me now u) (sym (in_is monitor me bits leader false led own zero answer))
        (subst (λ (x : HostNote). AllSeen me (after_note x h) (after_said (after_in v me leader.host leader.link) me leader.host (turn_at (after_in v me leader.host leader.link) me leader.host leader.host false) true (message_in bits))) (sym e)
        (coming_all ns me h monitor bits leader k small (subst (λ (x : HostNote). IsHostSaid x h) e p) led own zero follows seen))
    by leader led true own false zero true answer None there e = counterpart v (own_is monitor me bits leader false true led own zero answer) (plain v refl refl e (Ok leader) led (not_regular leader zero))
    by leader led false own false zero true answer None there e =
        let after = monitor_after_answer v leader.kind me leader.host leader.link in
        counterpart after (answer_is monitor me bits leader led own zero answer)
        (plain after (answer_views leader.kind leader.host leader.link) (answer_room leader.kind leader.host leader.link) e (Ok leader) led (not_regular leader zero))
    by leader led true own false zero true answer (Some s) there e = let nay : None ≡ Some s = sym (no_peer leader own) ∙ there in absurd (cc)
    by leader led false own false zero true answer (Some s) there e =
        let after = monitor_after_answer v leader.kind me leader.host leader.link in
        counterpart after (answer_is monitor me bits leader led own zero answer)
        (answer_all ns me h monitor after bits leader note k p e (answer_views leader.kind leader.host leader.link) (answer_room leader.kind leader.host leader.link) seen)

    go : (r : Result Leader Short) → leader_in bits ≡ r → AllSeen me now (after_record monitor FromImp me bits)
    go (Err short) e = counterpart v (short_is monitor me bits short e) (plain v refl refl (is ∙ ap (λ (r : Result Leader Short). note_as (answer_with r h) bits (received_in bits h)) e) (Err short) e (λ leader q. absurd (cc)))
    go (Ok leader) e =
        by leader e (leader.host == me) refl (leader.kind == 0) refl (is_answer leader.kind) refl (state_of h leader.host) refl
        (is ∙ ap (λ (r : Result Leader Short). note_as (answer_with r h) bits (received_in bits h)) e)

-- ---- sent messages

or_false : (b : Bool) → (b || false) ≡ b
or_false true = refl
or_false false = refl

-- what is read of a message of commands, and of a text

pub control_read : (n : ℕ) (message : List Bool) (cs : List Command) → n < 256 → length (spellings cs) ≤ 120 → control_message n cs ≡ Some message → message_in message ≡ Ok (message_with (leader_to n 0) 8 (bits_of_bytes (spellings cs)))
control_read n message [] l w e = absurd (cc)
control_read n message (c ∷ cs) l w e =
    let text : List Bool = bits_of_bytes (spellings (c ∷ cs)) in
    let bits : length text ≡ 8 * length (spellings (c ∷ cs)) = length-bits_of_bytes (spellings (c ∷ cs)) in
    let fits : IsText 8 text = (omega arith, omega arith, omega (arith, bits, w), omega (arith, bits)) in
    let is : message_to n 0 8 text ≡ message = cc in
    ap message_in (sym is) ∙ read n 0 8 text l (omega arith) fits

pub text_read : (n on : ℕ) (message : List Bool) (t : ℕ × List Bool) → n < 256 → is_one_of on links ≡ true → IsText t.0 t.1 → text_message n on (Some t) ≡ Some message → message_in message ≡ Ok (message_with (leader_to n on) t.0 t.1)
text_read n on message t l u fits e = let is : message_to n on t.0 t.1 ≡ message = cc in ap message_in (sym is) ∙ read n on t.0 t.1 l (link_small on u) fits

-- the message that is ready on a link, where what it leaves is seen
link_out : (A : Monitor) (me n on : ℕ) (message : List Bool) (s : PeerState) → length A.views ≡ VIEWS → me < 256 → n < 256 → is_one_of on links ≡ true → PeerInvariant s.peer → output_by (slot_at s.slots on) n on s.peer ≡ Some message
    → Sees (is_quiet (with_slot s.slots on (Slot.Travelling message))) (busy_link me n A.kept) → Stands s.peer (is_quiet s.slots) (view_in A.views me n) → Stands s.peer (is_quiet s.slots) (view_of A me n) → ((on == 0) ≡ false → TextClear (view_of A me n))
    → Out A me n (is_empty (slot_at s.slots on)) (message_in message) (after_by (slot_at s.slots on) on s.peer) (is_quiet (with_slot s.slots on (Slot.Travelling message)))
link_out A me n on message s long a b u fine ready busy k1 k2 clear = by (slot_at s.slots on) refl ready
  where
    now : Bool
    now = is_quiet (with_slot s.slots on (Slot.Travelling message))

    made : (z : Bool) → (on == control_link) ≡ z → (if z then control_message n (next_commands s.peer.phase.waiting) else text_message n on (answer (cut_in on s.peer.ends))) ≡ Some message
        → Out A me n true (message_in message) (if z then peer_sends s.peer else cuts on s.peer) now
    made true z e =
        subst (λ (r : Result Message MessageFault). Out A me n true r (peer_sends s.peer) now) (sym (control_read n message (next_commands s.peer.phase.waiting) b (weighs MAX_CONTROL s.peer.phase.waiting) e))
        (commands_out A me n s.peer now long a b fine.well.waiting busy (stands_quiet s.peer (is_quiet s.slots) now (view_of A me n) (quiet_zero s.slots on (Slot.Travelling message) z) k2))
    made false z e = of_text (answer (cut_in on s.peer.ends)) refl e
      where
        of_text : (o : Option (ℕ × List Bool)) → answer (cut_in on s.peer.ends) ≡ o → text_message n on o ≡ Some message → Out A me n true (message_in message) (cuts on s.peer) now
        of_text None f e = absurd (cc)
        of_text (Some t) f e =
            subst (λ (r : Result Message MessageFault). Out A me n true r (cuts on s.peer) now) (sym (text_read n on message t b u (cut-written on s.peer.ends t fine.good fine.well.ends f) e))
            (text_out A me n on t s.peer (is_quiet s.slots) now long a b u z f (clear z) k2)

    by : (slot : LinkSlot) → slot_at s.slots on ≡ slot → output_by slot n on s.peer ≡ Some message → Out A me n (is_empty slot) (message_in message) (after_by slot on s.peer) now
    by Slot.Empty q e = made (on == control_link) refl e
    by (Slot.Ready m) q e = again_out A me n (message_in message) s.peer now (stands_quiet s.peer (is_quiet s.slots) now (view_in A.views me n) (quiet_filled s.slots on (Slot.Travelling message) (ap is_empty (sym q))) k1)
    by (Slot.Travelling m) q e = absurd (cc)
    by (Slot.Held m) q e = absurd (cc)

-- the umpire after a message that finds room
pub out_views : (me n on : ℕ) (monitor : Monitor) (message : List Bool) → monitor.full ≡ false → (monitor_after_out (sees monitor me) me n on message).views ≡ with_view monitor.views me n (view_after_out (view_in monitor.views me n) on (slot_of_link (sees monitor me) me n on) (same_of (sees monitor me) me n on message))
out_views me n on monitor message roomy =
    ap (λ (b : Bool). (if b then sees monitor me else record (sees monitor me) {
      full = not (has_room monitor.kept (position_of me n on monitor.kept));
      views = with_view monitor.views me n (view_after_out (view_in monitor.views me n) on (slot_of_link (sees monitor me) me n on) (same_of (sees monitor me) me n on message));
      kept = with_out monitor.kept (position_of me n on monitor.kept) (gone_out me n on message);
    }).views) roomy

pub was_open : (me n on : ℕ) (monitor : Monitor) (message : List Bool) → (monitor_after_out (sees monitor me) me n on message).full ≡ false → monitor.full ≡ false
was_open me n on monitor message e = by monitor.full refl e
  where
    by : (b : Bool) → monitor.full ≡ b → (if b then sees monitor me else record (sees monitor me) {
      full = not (has_room monitor.kept (position_of me n on monitor.kept));
      views = with_view monitor.views me n (view_after_out (view_in monitor.views me n) on (slot_of_link (sees monitor me) me n on) (same_of (sees monitor me) me n on message));
      kept = with_out monitor.kept (position_of me n on monitor.kept) (gone_out me n on message);
    }).full ≡ false → b ≡ false
    by true f e = sym f ∙ e
    by false f e = refl

pub out_long : (me n on : ℕ) (monitor : Monitor) (message : List Bool) → length (monitor_after_out (sees monitor me) me n on message).views ≡ length monitor.views
out_long me n on monitor message = by monitor.full
  where
    view : View
    view = view_after_out (view_in monitor.views me n) on (slot_of_link (sees monitor me) me n on) (same_of (sees monitor me) me n on message)

    by : (b : Bool) → length (if b then sees monitor me else record (sees monitor me) {
      full = not (has_room monitor.kept (position_of me n on monitor.kept));
      views = with_view monitor.views me n view;
      kept = with_out monitor.kept (position_of me n on monitor.kept) (gone_out me n on message);
    }).views ≡ length monitor.views
    by true = refl
    by false = view_length monitor.views me n view

-- a message sent to a peer, while all unacknowledged messages are kept
pub record Goes (me n on : ℕ) (message : List Bool) (s : PeerState) (monitor : Monitor) : Type 0 where
  pub none : Parts (monitor_after_out (sees monitor me) me n on message) me n me true (fresh_out (sees monitor me) me n on message) (message_in message)
  pub fresh : fresh_out (sees monitor me) me n on message ≡ is_empty (slot_at s.slots on)
  pub before : Stands s.peer (is_quiet s.slots) (view_of (monitor_after_out (sees monitor me) me n on message) me n)
  pub clear : (on == 0) ≡ false → TextClear (view_of (monitor_after_out (sees monitor me) me n on message) me n)
  pub busy : Sees (is_quiet (with_slot s.slots on (Slot.Travelling message))) (busy_link me n (monitor_after_out (sees monitor me) me n on message).kept)
  pub seen : Seen (after_output on message s) (view_in (after_said (monitor_after_out (sees monitor me) me n on message) me n (turn_at (monitor_after_out (sees monitor me) me n on message) me n me true) (fresh_out (sees monitor me) me n on message) (message_in message)).views me n)

pub goes_on : (ns : List ℕ) (me n : ℕ) (h : Host) (monitor : Monitor) (message : List Bool) (s : PeerState) (is : IsOut n message s) → Holds ns h → me < 256 → is_one_of me ns ≡ false → IsHostSaid (HostNote.Out message) h → state_of h n ≡ Some s
    → Follows me h monitor → AllReady h → AllSeen me h monitor → (n == me) ≡ false → (monitor_after_out (sees monitor me) me n is.on message).full ≡ false → Goes me n is.on message s monitor
goes_on ns me n h monitor message s is k small away p there follows ready seen other full = record {
  none = subst (λ (b : Bool). Parts A me n me true b (message_in message)) (sym fresh) went.none;
  fresh = fresh;
  before = k2;
  clear = clear;
  busy = busy;
  seen = record {
    stands = subst (λ (b : Bool). Stands (after_by (slot_at s.slots on) on s.peer) now (view_in (after_said A me n (turn_at A me n me true) b (message_in message)).views me n)) (sym fresh) went.stands;
    used = used_now;
  };
}
  where
    on : ℕ
    on = is.on

    A : Monitor
    A = monitor_after_out (sees monitor me) me n on message

    roomy : monitor.full ≡ false
    roomy = was_open me n on monitor message full

    o : Seen s (view_in monitor.views me n)
    o = seen.each roomy n s there

    v : View
    v = view_in monitor.views me n

    now : Bool
    now = is_quiet (with_slot s.slots on (Slot.Travelling message))

    used_now : OnLinks (after_output on message s)
    used_now = out_used on message s is.a_link o.used

    known : Known me h monitor.kept
    known = follows roomy

    new : New (slot_of_link (sees monitor me) me n on) (same_of (sees monitor me) me n on message) (slot_at s.slots on)
    new =
        subst (λ (b : Bool). New (kept_slot b monitor.kept (position_of me n on monitor.kept)) (same_at monitor.kept (position_of me n on monitor.kept) message) (slot_at s.slots on)) (sym o.stands.phased.known)
        (is_new (is_of me n on) monitor.kept (slot_at s.slots on) n on s.peer message (known.agrees n s there on) is.ready)

    fresh : fresh_out (sees monitor me) me n on message ≡ is_empty (slot_at s.slots on)
    fresh = ap (λ (b : Bool). b || is_fresh (slot_of_link (sees monitor me) me n on) (same_of (sees monitor me) me n on message)) roomy ∙ new.fresh

    long : length A.views ≡ VIEWS
    long = out_long me n on monitor message ∙ seen.long

    num : n < 256
    num = (k.good n s there).0

    noted_view : view_in A.views me n ≡ view_after_out v on (slot_of_link (sees monitor me) me n on) (same_of (sees monitor me) me n on message)
    noted_view =
        ap (λ (x : List View). view_in x me n) (out_views me n on monitor message roomy)
        ∙ view_same monitor.views me n (view_after_out v on (slot_of_link (sees monitor me) me n on) (same_of (sees monitor me) me n on message)) seen.long small num

    k1 : Stands s.peer (is_quiet s.slots) (view_in A.views me n)
    k1 =
        let w : View = view_after_out v on (slot_of_link (sees monitor me) me n on) (same_of (sees monitor me) me n on message) in
        subst (λ (x : View). Stands s.peer (is_quiet s.slots) x) (sym noted_view)
        (stands_suspended s.peer (is_quiet s.slots) v (changes_slot (slot_of_link (sees monitor me) me n on) (same_of (sees monitor me) me n on message)) (may_pass_reset v on) w.overlapped o.stands)

    k2 : Stands s.peer (is_quiet s.slots) (view_of A me n)
    k2 =
        let w : View = view_in A.views me n in
        stands_as s.peer (is_quiet s.slots) w w.suspended w.overlapped (w.told && not A.full) refl (not_full w.told A.full k1.phased.told full) k1

    follows_now : Follows me (after_note (HostNote.Out message) h) (after_record monitor ToImp me message)
    follows_now = after_out_of ns me n on h monitor message s k p is.leader other there follows

    keeps : Keeps A (after_record monitor ToImp me message)
    keeps = subst (λ (u : Monitor). Keeps A u) (sym (out_is monitor me n on message is.leader other)) (said_keeps A me n (turn_at A me n me true) (fresh_out (sees monitor me) me n on message) (message_in message))

    there_now : state_of (after_note (HostNote.Out message) h) n ≡ Some (after_output on message s)
    there_now =
        note-state ns (HostNote.Out message) h n k p
        ∙ ap (done (names n (HostNote.Out message)) (note_for (HostNote.Out message))) there
        ∙ ap (λ (r : Result Leader Short). Some (if is_this_number n (peer_of_leader r) then out_for r message s else s)) is.leader
        ∙ ap (λ (b : Bool). Some (if b then after_output on message s else s)) (itself n)

    busy : Sees now (busy_link me n A.kept)
    busy =
        sees_busy me n A.kept (after_output on message s)
        (λ l. subst (λ (xs : List SentMessage). Shows (filter (is_of me n l) xs) (slot_at (after_output on message s).slots l)) keeps.0 ((follows_now (keeps.1 ∙ full)).agrees n (after_output on message s) there_now l))
        used_now

    -- a text after an RRP that the host did not await suspends its session
    clear : (on == 0) ≡ false → TextClear (view_of A me n)
    clear z = subst (λ (x : View). TextClear x) (sym noted_view) (by v.told o.stands.phased.told (on == 0) z)
      where
        changes : Bool
        changes = changes_slot (slot_of_link (sees monitor me) me n on) (same_of (sees monitor me) me n on message)

        last : (a b c d : Bool) → (a || b || ((c || d) && true)) ≡ false → (c ≡ false) × (d ≡ false)
        last false false false false r = (refl, refl)
        last false false false true r = absurd (cc)
        last false false true d r = absurd (cc)
        last false true c d r = absurd (cc)
        last true b c d r = absurd (cc)

        by : (t : Bool) → t ≡ true → (x : Bool) → x ≡ false → (v.suspended || changes || (t && (is_answered_too_often v.host.wait || v.acted) && not x)) ≡ false → (is_answered_too_often v.host.wait ≡ false) × (v.acted ≡ false)
        by true e false f r = last v.suspended changes (is_answered_too_often v.host.wait) v.acted r
        by true e true f r = absurd (cc)
        by false e x f r = absurd (cc)

    went : Out A me n (is_empty (slot_at s.slots on)) (message_in message) (after_by (slot_at s.slots on) on s.peer) now
    went = link_out A me n on message s long small num is.a_link (ready n s there).fine is.ready busy k1 k2 clear

pub out_all : (ns : List ℕ) (me n : ℕ) (h : Host) (monitor : Monitor) (message : List Bool) (s : PeerState) (is : IsOut n message s) → Holds ns h → me < 256 → is_one_of me ns ≡ false → IsHostSaid (HostNote.Out message) h → state_of h n ≡ Some s
    → Follows me h monitor → AllReady h → AllSeen me h monitor → (n == me) ≡ false → AllSeen me (after_note (HostNote.Out message) h) (after_record monitor ToImp me message)
out_all ns me n h monitor message s is k small away p there follows ready seen other =
    subst (λ (u : Monitor). AllSeen me (after_note (HostNote.Out message) h) u) (sym (out_is monitor me n on message is.leader other))
    (record { long = said_long A me n me true fresh (message_in message) ∙ out_long me n on monitor message ∙ seen.long; each = each })
  where
    on : ℕ
    on = is.on

    A : Monitor
    A = monitor_after_out (sees monitor me) me n on message

    fresh : Bool
    fresh = fresh_out (sees monitor me) me n on message

    now : Monitor
    now = after_said A me n (turn_at A me n me true) fresh (message_in message)

    each : now.full ≡ false → (m : ℕ) (t : PeerState) → state_of (after_note (HostNote.Out message) h) m ≡ Some t → Seen t (view_in now.views me m)
    each full m t e = go (was ns (HostNote.Out message) h m t k p e)
      where
        full_out : A.full ≡ false
        full_out = sym (said_keeps A me n (turn_at A me n me true) fresh (message_in message)).1 ∙ full

        roomy : monitor.full ≡ false
        roomy = was_open me n on monitor message full_out

        go : (x : PeerState) × (state_of h m ≡ Some x) × (t ≡ (if names m (HostNote.Out message) then note_for (HostNote.Out message) x else x)) → Seen t (view_in now.views me m)
        go w = by (eqb_tells n m)
          where
            become : t ≡ (if n == m then after_output on message w.0 else w.0)
            become = w.2 ∙ ap (λ (r : Result Leader Short). if is_this_number m (peer_of_leader r) then out_for r message w.0 else w.0) is.leader

            by : (((n == m) ≡ true) × (n ≡ m)) ⊎ (((n == m) ≡ false) × (n ≢ m)) → Seen t (view_in now.views me m)
            by (inl same) =
                let one : w.0 ≡ s = some_same (sym w.1 ∙ ap (state_of h) (sym same.1) ∙ there) in
                subst (λ (x : PeerState). Seen x (view_in now.views me m)) (sym (become ∙ ap (λ (b : Bool). if b then after_output on message w.0 else w.0) same.0 ∙ ap (after_output on message) one))
                (subst (λ (j : ℕ). Seen (after_output on message s) (view_in now.views me j)) same.1 (goes_on ns me n h monitor message s is k small away p there follows ready seen other full_out).seen)
            by (inr distinct_is) =
                subst (λ (x : PeerState). Seen x (view_in now.views me m)) (sym (become ∙ ap (λ (b : Bool). if b then after_output on message w.0 else w.0) distinct_is.0))
                (subst (λ (u : View). Seen w.0 u)
                (sym (said_other A me n m me true fresh (message_in message) (λ e. distinct_is.1 (sym e))
                ∙ ap (λ (x : List View). view_in x me m) (out_views me n on monitor message roomy)
                ∙ view_other monitor.views me n m (view_after_out (view_in monitor.views me n) on (slot_of_link (sees monitor me) me n on) (same_of (sees monitor me) me n on message)) (λ e. distinct_is.1 (sym e))))
                (seen.each roomy m w.0 w.1))

-- ---- after too many messages were unacknowledged, nothing is reported of the phase

record Untold (me : ℕ) (busy : Option ℕ) (c : Command) (v : View) : Type 0 where
  none : item_findings (record { by = me; sent = true; busy = busy; zero = false }) (Ok c) v ≡ []
  told : (after_item (record { by = me; sent = true; busy = busy; zero = false }) (Ok c) v).told ≡ false

untold : (me : ℕ) (busy : Option ℕ) (c : Command) (v : View) → v.told ≡ false → Untold me busy c v
untold me busy Command.Rst v t = record { none = grind arith; told = grind arith }
untold me busy Command.Rrp v t = record { none = grind arith; told = grind arith }
untold me busy c v t = record { none = grind arith; told = t }

record AllUntold (me : ℕ) (busy : Option ℕ) (cs : List Command) (v : View) : Type 0 where
  none : items_findings (record { by = me; sent = true; busy = busy; zero = false }) (items_of cs None) v ≡ []
  told : (after_items (record { by = me; sent = true; busy = busy; zero = false }) (items_of cs None) v).told ≡ false

all_untold : (me : ℕ) (busy : Option ℕ) (cs : List Command) (v : View) → v.told ≡ false → AllUntold me busy cs v
all_untold me busy [] v t = record { none = refl; told = t }
all_untold me busy (c ∷ cs) v t =
    let one = untold me busy c v t in
    let w : View = after_item (record { by = me; sent = true; busy = busy; zero = false }) (Ok c) v in
    let more = all_untold me busy cs w one.told in
    record { none = ap (λ (xs : List Finding). xs ++ items_findings (record { by = me; sent = true; busy = busy; zero = false }) (items_of cs None) w) one.none ∙ more.none; told = more.told }

untold_missing : (me : ℕ) (busy : Option ℕ) (room : Bool) (v : View) → v.told ≡ false → missing_finding (record { by = me; sent = true; busy = busy; zero = false }) room v ≡ None
untold_missing me busy true v t = grind arith
untold_missing me busy false v t = refl

untold_text : (me : ℕ) (busy : Option ℕ) (zero : Bool) (v : View) → v.told ≡ false → early_finding (record { by = me; sent = true; busy = busy; zero = zero }) ItemKind.Text v ≡ None
untold_text me busy zero v t = grind arith

pub and_not : (b f : Bool) → f ≡ true → (b && not f) ≡ false
and_not true true e = refl
and_not false true e = refl
and_not b false e = absurd (cc)

zero_none : (A : Monitor) (me n : ℕ) → A.full ≡ true → knows_zero A me n ≡ false
zero_none A me n full = grind arith

untold_control : (P : Finding → Bool) (A : Monitor) (me n : ℕ) (text : List Bool) → A.full ≡ true → fault_in (bytes_of text) ≡ None → Pass P (control_flow A me n me true text)
    → Pass P (control_findings (turn_at A me n me true) (observed_flow_of me n (turn_at A me n me true)) A.kept text (view_of A me n) A.conn_tables)
untold_control P A me n text full whole = control_parted P A me n me true text none_found none_left
  where
    busy : Option ℕ
    busy = busy_link me n A.kept

    cs : List Command
    cs = commands_in (bytes_of text)

    v : View
    v = view_of A me n

    w : AllUntold me busy cs v
    w = all_untold me busy cs v (and_not (view_in A.views me n).told A.full full)

    none_found : items_findings (record { by = me; sent = true; busy = busy; zero = knows_zero A me n }) (items_said text) v ≡ []
    none_found =
        ap (λ (z : Bool). items_findings (record { by = me; sent = true; busy = busy; zero = z }) (items_said text) v) (zero_none A me n full)
        ∙ ap (λ (f : Option CommandFault). items_findings (record { by = me; sent = true; busy = busy; zero = false }) (items_of cs f) v) whole ∙ w.none

    none_left : missing_finding (record { by = me; sent = true; busy = busy; zero = knows_zero A me n }) (shows_all text v) (after_items (record { by = me; sent = true; busy = busy; zero = knows_zero A me n }) (items_said text) v) ≡ None
    none_left =
        ap (λ (z : Bool). missing_finding (record { by = me; sent = true; busy = busy; zero = z }) (shows_all text v) (after_items (record { by = me; sent = true; busy = busy; zero = z }) (items_said text) v)) (zero_none A me n full)
        ∙ ap (λ (f : Option CommandFault). missing_finding (record { by = me; sent = true; busy = busy; zero = false }) (shows_all text v) (after_items (record { by = me; sent = true; busy = busy; zero = false }) (items_of cs f) v)) whole
        ∙ untold_missing me busy (shows_all text v) (after_items (record { by = me; sent = true; busy = busy; zero = false }) (items_of cs None) v) w.told

untold_read : (P : Finding → Bool) (A : Monitor) (me n : ℕ) (m : Message) → A.full ≡ true → ((m.leader.link == 0) ≡ true → fault_in (bytes_of m.text) ≡ None)
    → Pass P (message_flow A me n me true true (Ok m)) → Pass P (said_findings A me n (turn_at A me n me true) true (Ok m))
untold_read P A me n m full whole = go (is_unused m.leader.link) (m.leader.link == 0) (m.size == 8) refl refl refl
  where
    early : early_finding (turn_at A me n me true) ItemKind.Text (view_of A me n) ≡ None
    early = untold_text me (busy_link me n A.kept) (knows_zero A me n) (view_of A me n) (and_not (view_in A.views me n).told A.full full)

    go : (x y z : Bool) → is_unused m.leader.link ≡ x → (m.leader.link == 0) ≡ y → (m.size == 8) ≡ z
        → Pass P (message_flow A me n me true true (Ok m)) → Pass P (said_findings A me n (turn_at A me n me true) true (Ok m))
    go true y z e f g = rw e (λ said. refl)
    go false false z e f g = text_parted P A me n me true m e f early
    go false true true e f g = rw (e, f, g) (untold_control P A me n m.text full (whole f))
    go false true false e f g = rw (e, f, g) (λ said. refl)

full_said : (A : Monitor) (me n : ℕ) (fresh : Bool) (r : Result Message MessageFault) → A.full ≡ true → ((m : Message) → r ≡ Ok m → (m.leader.link == 0) ≡ true → fault_in (bytes_of m.text) ≡ None)
    → Parts A me n me true fresh r
full_said A me n fresh (Err fault) full whole = λ P t. refl
full_said A me n false (Ok m) full whole = λ P t. refl
full_said A me n true (Ok m) full whole = λ P. untold_read P A me n m full (whole m refl)

-- ---- a message

free : (P : Finding → Bool) (me n : ℕ) (h : Host) (monitor : Monitor) (s : PeerState) (message : List Bool) (is : IsOut n message s) → state_of h n ≡ Some s → Follows me h monitor
    → Pass P (option_to_list (out_finding monitor me n is.on message))
free P me n h monitor s message is there f = go monitor.full refl
  where
    rules : Option Rule
    rules = out_rule (slot_of_link monitor me n is.on) (same_of monitor me n is.on message) is.on

    go : (b : Bool) → monitor.full ≡ b → Pass P (option_to_list (if b then None else option_map (by_host me) rules))
    go true full = refl
    go false full =
        let none : rules ≡ None = allowed (is_of me n is.on) (view_in monitor.views me n).known monitor.kept (slot_at s.slots is.on) n is.on s.peer message ((f full).agrees n s there is.on) is.ready in
        subst (λ (o : Option Rule). Pass P (option_to_list (option_map (by_host me) o))) (sym none) refl

-- where what it says passes a test, all that is found in it does
pub out_passes : (P : Finding → Bool) (ns : List ℕ) (me n : ℕ) (h : Host) (monitor : Monitor) (message : List Bool) (s : PeerState) (is : IsOut n message s) → Holds ns h → me < 256 → is_one_of me ns ≡ false → IsHostSaid (HostNote.Out message) h → state_of h n ≡ Some s
    → Follows me h monitor → AllReady h → AllSeen me h monitor → (n == me) ≡ false
    → Pass P (message_flow (monitor_after_out (sees monitor me) me n is.on message) me n me true (fresh_out (sees monitor me) me n is.on message) (message_in message))
    → Pass P (record_findings monitor ToImp me message)
out_passes P ns me n h monitor message s is k small away p there follows ready seen other flow =
    goes_said P monitor me n on message is.leader other
    (free P me n h (sees monitor me) s message is there follows)
    (λ r e. no_rule r (sym whole.0 ∙ e))
    ((by A.full refl) P flow)
  where
    on : ℕ
    on = is.on

    A : Monitor
    A = monitor_after_out (sees monitor me) me n on message

    whole : Whole on message
    whole = let r = ready n s there in out_whole n message s is (k.good n s there).0 r.fine r.kept

    no_rule : (r : Rule) → None ≡ Some r → P (by_host me r) ≡ true
    no_rule r e = absurd (cc)

    by : (b : Bool) → A.full ≡ b → Parts A me n me true (fresh_out (sees monitor me) me n on message) (message_in message)
    by true full = full_said A me n (fresh_out (sees monitor me) me n on message) (message_in message) full whole.1
    by false full = (goes_on ns me n h monitor message s is k small away p there follows ready seen other full).none

-- ---- the beginning

new_seen : (v : View) → v ≡ new_view false → Seen new_state v
new_seen v e = subst (λ (x : View). Seen new_state x) (sym e) (record {
  stands = record { phased = grind arith; settled = record { owes = λ q. refl; wants = λ q. refl }; down = λ u. refl; unheard = λ u r a z. none_heard };
  used = λ on x. let nay : true ≡ false = sym (ap is_empty (slot_at-no_slots on)) ∙ x in absurd (cc);
})

pub seen_begins : (me : ℕ) (ns : List ℕ) → AllSeen me (new_host me ns) (new_monitor false)
seen_begins me ns = record { long = length-replicate VIEWS (new_view false); each = λ full n s e. by ns n s e (view_in (new_monitor false).views me n) (new_is n) }
  where
    new_is : (n : ℕ) → view_in (new_monitor false).views me n ≡ new_view false
    new_is n = replicated VIEWS (index_of me n) (new_view false)

    by : (ns : List ℕ) (n : ℕ) (s : PeerState) → state_of (new_host me ns) n ≡ Some s → (v : View) → v ≡ new_view false → Seen s v
    by [] n s e v q = absurd (cc)
    by (m ∷ ns) n s e v q = go (m == n) (by ns n s) e
      where
        go : (b : Bool) → (state_of (new_host me ns) n ≡ Some s → (v : View) → v ≡ new_view false → Seen s v) → (if b then Some new_state else state_of (new_host me ns) n) ≡ Some s → Seen s v
        go true rest e = let is : new_state ≡ s = cc in subst (λ (x : PeerState). Seen x v) is (new_seen v q)
        go false rest e = rest e v q
