-- The monitor's view of a host's phase with a peer, through sent and received messages.
use Rattle.std.proofs.Common.{◌≡◌, ◌≢◌, inl, inr, ℕ, ◌+◌, ◌≤◌, ◌<◌, ◌==◌, Bool, true, false, not, ◌||◌, if◌then◌else◌, List, [], ◌∷◌, length, drop, take, All, Option, None, Some, Result, Ok, Err, get_or-set_same, get_or-set_other, length-set, refl, sym, ap, ◌∙◌, subst, arith}
use Rattle.std.proofs.lemmas.Bool.Decides.{eqb_tells}
use Rattle.ncp_numbers.specs.Bytes.{bytes_of, bits_of_bytes}
use Rattle.ncp_numbers.proofs.Packing.{bytes_of-bits_of_bytes}
use Rattle.ncp_leader.specs.declared.fault.MessageFault.{MessageFault}
use Rattle.ncp_leader.specs.declared.regular.TheConstants.{FRONT_BITS}
use Rattle.ncp_leader.specs.Message.{Message, message_with}
use Rattle.ncp_wire.specs.declared.command.Command.{Command}
use Rattle.ncp_wire.specs.declared.fault.CommandFault.{CommandFault}
use Rattle.ncp_wire.specs.declared.answer.Answer.{Answer}
use Rattle.ncp_wire.specs.declared.answer.Answer.TheVariants.{Rfnm, Incomplete, Dead}
use Rattle.ncp_wire.specs.Spelling.{IsCommand, spellings}
use Rattle.ncp_control.specs.Texts.{items_of}
use Rattle.ncp_control.specs.Reading.{commands_in, fault_in}
use Rattle.ncp_control.proofs.Reading.{spellings_small, spelled_alone}
use Rattle.ncp_slot.specs.declared.slot.Slot.{Slot}
use Rattle.ncp_slot.specs.Slot.{is_empty, is_travelling, answered}
use Rattle.ncp_slot.specs.Slots.{LinkSlot, LinkSlots, slot_at, with_slot, all_woken, is_quiet}
use Rattle.ncp_slot.proofs.Places.{slot_at-with_slot_same, slot_at-with_slot_other, is_quiet-tells, same_test}
use Rattle.ncp_slot.proofs.Waking.{slot_at-all_woken}
use Rattle.ncp_model.specs.declared.pair.Pair.{Pair}
use Rattle.ncp_model.specs.Effect.{answer, made_if_any}
use Rattle.ncp_model.specs.Endpoint.{Endpoint}
use Rattle.ncp_model.specs.Ends.{Ends, hears_link, sender_on, pair_of, cut_at, cut_in, answered_in, map_after_at, no_ends}
use Rattle.ncp_model.specs.Texts.{Rfnm}
use Rattle.ncp_model.specs.declared.limits.TheConstants.{MAX_CONTROL}
use Rattle.ncp_model.specs.Phase.{Phase, up, phase_settles}
use Rattle.ncp_model.specs.Sending.{next_commands}
use Rattle.ncp_model.specs.Peers.{Peer, cuts, frees, frees_up, peer_sends, settles}
use Rattle.ncp_model.proofs.LinksDemux.{led}
use Rattle.ncp_model.proofs.ResetLists.{rrps, rrps-append}
use Rattle.ncp_proof_machine.proofs.EndsGood.{EndsInvariant}
use Rattle.ncp_peer.specs.Counting.{one_more}
use Rattle.ncp_peer.specs.PeerState.{PeerState, control_link, is_answered, answer_taken, answer_comes}
use Rattle.ncp_peer.specs.Hearing.{state_hears, state_hears_text, message_after}
use Rattle.ncp_peer.specs.Output.{leader_to, links}
use Rattle.ncp_host.specs.Host.{is_one_of}
use Rattle.ncp_transcript.specs.Asked.{Asked, Asks, Asks_echo, Asks_reset, Asks_wake}
use Rattle.ncp_transcript.specs.declared.note.HostNote.{HostNote}
use Rattle.ncp_proof_runs.specs.Peers.{state_asked, note_for}
use Rattle.ncp_proof_runs.proofs.MadeOfRuns.{next-first}
use Rattle.ncp_monitor.specs.declared.finding.ItemKind.{ItemKind}
use Rattle.ncp_monitor.specs.declared.monitor.Monitor.{Monitor}
use Rattle.ncp_monitor.specs.declared.view.View.{View}
use Rattle.ncp_monitor.specs.declared.views.TheConstants.{VIEWS}
use Rattle.ncp_interface.specs.Slots.{busy_link}
use Rattle.ncp_monitor.specs.Tables.{index_of, view_in, with_view}
use Rattle.ncp_monitor.specs.declared.view.Wait.TheVariants.{Even}
use Rattle.ncp_monitor.specs.Views.{awaits_reply, is_answered_too_often, new_view}
use Rattle.ncp_interface.specs.Contents.{is_unused, message_class, items_said}
use Rattle.ncp_monitor.specs.Phases.{early_finding, after_thing, items_findings, after_item, after_items, after_room, missing_finding}
use Rattle.ncp_monitor.specs.Judged.{view_of, knows_zero, turn_at, shows_all, after_read, after_said}
use Rattle.ncp_proof_monitor.proofs.Talking.{control_parted, Parts, text_parted}
use Rattle.ncp_proof_monitor.proofs.HostSlots.{is_of_call, asked_of_note, note_asked, empty_woken}
use Rattle.ncp_proof_monitor.proofs.Goes.{used}
use Rattle.ncp_proof_monitor.proofs.Laid.{fitting_all}
use Rattle.ncp_proof_monitor.proofs.PhaseLists.{none_of}
use Rattle.ncp_proof_monitor.proofs.Fresh.{OnLinks, not_quiet}
use Rattle.ncp_proof_monitor.proofs.Phased.{Phased, Sees, TextClear, unquieted, up_settled, quieted, text_goes, suspended_so, roomed}
use Rattle.ncp_proof_monitor.proofs.PhaseGoes.{suspended_more, AllWent, all_went, roomy_left, none_missing}
use Rattle.ncp_proof_monitor.proofs.PhaseSteps.{Stands, Unheard, none_heard, stands_if, no_reply, settling, calls_stand, echo_stands, reset_stands, command_stands, fault_stands, text_stands, makes_stand}

-- ---- the views in a row

pub view_same : (views : List View) (me n : ℕ) (v : View) → length views ≡ VIEWS → me < 256 → n < 256 → view_in (with_view views me n v) me n ≡ v
view_same views me n v l a b =
    let inside : index_of me n < length views = (let e : length views ≡ 65536 = l in omega (arith, e, a, b)) in
    get_or-set_same views (index_of me n) v (new_view false) inside

pub view_other : (views : List View) (me n m : ℕ) (v : View) → m ≢ n → view_in (with_view views me n v) me m ≡ view_in views me m
view_other views me n m v d = get_or-set_other views (index_of me n) (index_of me m) v (new_view false) (λ e. d (omega (arith, e)))

pub view_length : (views : List View) (me n : ℕ) (v : View) → length (with_view views me n v) ≡ length views
view_length views me n v = length-set views (index_of me n) v

-- ---- quiet links

to_empty : (x : LinkSlot) → is_empty x ≡ true → x ≡ Slot.Empty
to_empty Slot.Empty e = refl
to_empty (Slot.Ready m) e = absurd (cc)
to_empty (Slot.Travelling m) e = absurd (cc)
to_empty (Slot.Held m) e = absurd (cc)

pub quiet_same : (one other : LinkSlots) → ((l : ℕ) → (l == 0) ≡ false → is_empty (slot_at one l) ≡ is_empty (slot_at other l)) → is_quiet one ≡ is_quiet other
quiet_same one other f =
    same_test (is_quiet one) (is_quiet other) (is_quiet-tells one) (
      λ q l x y. to_empty (slot_at one l) (f l (far l x) ∙ ap is_empty ((is_quiet-tells other).0 q l x y)),
      λ g. (is_quiet-tells other).1 (λ l x y. to_empty (slot_at other l) (sym (f l (far l x)) ∙ ap is_empty (g l x y))),
    )
  where
    far : (l : ℕ) → 2 ≤ l → (l == 0) ≡ false
    far l x = grind arith

-- ---- what is known of a peer

pub record Seen (s : PeerState) (v : View) : Type 0 where
  pub stands : Stands s.peer (is_quiet s.slots) v
  pub used : OnLinks s

-- the view with another mark of what does not matter here
pub stands_as : (p : Peer) (q : Bool) (v : View) (suspended overlapped told : Bool) → suspended ≡ v.suspended → told ≡ true → Stands p q v → Stands p q (record v { suspended = suspended; overlapped = overlapped; told = told })
stands_as p q v suspended overlapped told r t k =
    subst (λ (b : Bool). Stands p q (record v { suspended = b; overlapped = overlapped; told = told })) (sym r)
    (subst (λ (b : Bool). Stands p q (record v { overlapped = overlapped; told = b })) (k.phased.told ∙ sym t)
    (record { phased = k.phased; settled = k.settled; down = k.down; unheard = k.unheard }))

-- with its session suspended
pub stands_suspended : (p : Peer) (q : Bool) (v : View) (one other overlapped : Bool) → Stands p q v → Stands p q (record v { suspended = v.suspended || one || other; overlapped = overlapped })
stands_suspended p q v one other overlapped k = record {
  phased = suspended_so p.phase q v one other overlapped k.phased;
  settled = k.settled;
  down = k.down;
  unheard = λ u r a z. k.unheard u (suspended_more v.suspended one (suspended_more (v.suspended || one) other r)) a z;
}

pub stands_quiet : (p : Peer) (q now : Bool) (v : View) → now ≡ q → Stands p q v → Stands p now v
stands_quiet p q now v e k = subst (λ (b : Bool). Stands p b v) (sym e) k

-- ---- calls

asked_seen : (o : Option (ℕ × Asked)) (s : PeerState) (v : View) → EndsInvariant s.peer.ends → Stands s.peer (is_quiet s.slots) v → Stands (state_asked o s).peer (is_quiet (state_asked o s).slots) v
asked_seen None s v g k = k
asked_seen (Some (peer, Asks pair call)) s v g k = calls_stand pair call s.peer (is_quiet s.slots) v g k
asked_seen (Some (peer, Asks_echo byte)) s v g k = echo_stands byte s.peer (is_quiet s.slots) v k
asked_seen (Some (peer, Asks_reset)) s v g k = reset_stands s.peer (is_quiet s.slots) v k
asked_seen (Some (peer, Asks_wake)) s v g k =
    stands_quiet s.peer (is_quiet s.slots) (is_quiet (all_woken s.slots)) v (quiet_same (all_woken s.slots) s.slots (λ l z. ap is_empty (slot_at-all_woken s.slots l) ∙ empty_woken (slot_at s.slots l))) k

pub call_seen : (note : HostNote) (s : PeerState) (v : View) → is_of_call note ≡ true → EndsInvariant s.peer.ends → Stands s.peer (is_quiet s.slots) v → Stands (note_for note s).peer (is_quiet (note_for note s).slots) v
call_seen note s v c g k = subst (λ (now : PeerState). Stands now.peer (is_quiet now.slots) v) (note_asked note c s) (asked_seen (asked_of_note note) s v g k)

-- ---- a message of the peer

heard_seen : (n : ℕ) (busy : Option ℕ) (zero : Bool) (cs : List Command) (fault : Option CommandFault) (s : PeerState) (v : View) → Sees (is_quiet s.slots) busy → Stands s.peer (is_quiet s.slots) v
    → Stands (state_hears_text cs fault s).peer (is_quiet (state_hears_text cs fault s).slots) (after_items (record { by = n; sent = false; busy = busy; zero = zero }) (items_of cs fault) v)
heard_seen n busy zero [] None s v b k = k
heard_seen n busy zero [] (Some fault) s v b k = fault_stands n busy zero fault s.peer (is_quiet s.slots) v b k
heard_seen n busy zero (c ∷ cs) fault s v b k =
    heard_seen n busy zero cs fault (state_hears c s) (after_item (record { by = n; sent = false; busy = busy; zero = zero }) (Ok c) v) b (command_stands n busy zero c s.peer (is_quiet s.slots) v b k)

pub message_seen : (n : ℕ) (busy : Option ℕ) (zero : Bool) (bits : List Bool) (m : Message) (s : PeerState) (v : View) → Sees (is_quiet s.slots) busy → Stands s.peer (is_quiet s.slots) v
    → Stands (message_after m.leader.link bits (Ok m) s).peer (is_quiet (message_after m.leader.link bits (Ok m) s).slots) (after_read (message_class m) (record { by = n; sent = false; busy = busy; zero = zero }) m.text v)
message_seen n busy zero bits m s v b k = go (is_unused m.leader.link) (m.leader.link == 0) (m.size == 8) refl refl refl
  where
    go : (x y z : Bool) → is_unused m.leader.link ≡ x → (m.leader.link == 0) ≡ y → (m.size == 8) ≡ z
        → Stands (message_after m.leader.link bits (Ok m) s).peer (is_quiet (message_after m.leader.link bits (Ok m) s).slots) (after_read (message_class m) (record { by = n; sent = false; busy = busy; zero = zero }) m.text v)
    go true y z e f g = rw e k
    go false false z e f g = rw (e, f) (text_stands n busy zero m.leader.link (take FRONT_BITS bits) m.size m.text s.peer (is_quiet s.slots) v b k)
    go false true true e f g = rw (e, f, g) (heard_seen n busy zero (commands_in (bytes_of m.text)) (fault_in (bytes_of m.text)) s v b k)
    go false true false e f g = rw (e, f, g) k

-- ---- an answer

was_down : (q : Bool) (p : Phase) → up (phase_settles q p) ≡ false → up p ≡ false
was_down q p e = grind arith

pub same_up : (q : Bool) (p : Phase) → up p ≡ true → phase_settles q p ≡ p
same_up q p e = grind arith

settle_from : (p : Peer) (q : Bool) (v : View) → Phased p.phase q v → (up p.phase ≡ false → p.ends ≡ no_ends) → (up p.phase ≡ true → v.suspended ≡ false → v.acted ≡ false → 0 < rrps p.phase.waiting → Unheard p.ends) → Stands (settles q p) q v
settle_from p q v k down heard = record {
  phased = (settling p.phase q v k).0;
  settled = (settling p.phase q v k).1;
  down = λ e. down (was_down q p.phase e);
  unheard = λ u r a z. by (up p.phase) refl r a z;
}
  where
    by : (b : Bool) → up p.phase ≡ b → v.suspended ≡ false → v.acted ≡ false → 0 < rrps (phase_settles q p.phase).waiting → Unheard p.ends
    by true e r a z = heard e r a (subst (λ (x : Phase). 0 < rrps x.waiting) (same_up q p.phase e) z)
    by false e r a z = subst Unheard (sym (down e)) none_heard

no_rrp : (p : Phase) (v : View) → Phased p false v → v.suspended ≡ false → rrps p.waiting ≡ 0
no_rrp p v k r = let e = k.rrp_quiet r in grind arith

-- a text that is taken was out
freed_stands : (on : ℕ) (p : Peer) (v : View) → Stands p false v → Stands (frees on p) false v
freed_stands on p v k =
    let act = answered_in on Rfnm p.ends in
    stands_if (up p.phase) (frees_up on p) p false v
    (λ e. makes_stand (made_if_any (answer act)) (map_after_at p.ends (pair_of (sender_on on p.ends)) act) p.echoes p.phase false v k.phased k.settled (λ r a. no_rrp p.phase v k.phased r))
    (λ e. k)

pub travelling : (x : LinkSlot) → is_travelling x ≡ true → is_empty x ≡ false
travelling Slot.Empty e = absurd (cc)
travelling (Slot.Ready m) e = absurd (cc)
travelling (Slot.Travelling m) e = refl
travelling (Slot.Held m) e = absurd (cc)

beside : (slots : LinkSlots) (on : ℕ) (slot : LinkSlot) (l : ℕ) → l ≢ on → is_empty (slot_at (with_slot slots on slot) l) ≡ is_empty (slot_at slots l)
beside slots on slot l d = ap is_empty (slot_at-with_slot_other slots on slot l d)

-- another message on a link that had one, or another slot of link 0
pub quiet_filled : (slots : LinkSlots) (on : ℕ) (slot : LinkSlot) → is_empty slot ≡ is_empty (slot_at slots on) → is_quiet (with_slot slots on slot) ≡ is_quiet slots
quiet_filled slots on slot f = quiet_same (with_slot slots on slot) slots (λ l z. elim (eqb_tells l on) [
  | inl e ↦ subst (λ (j : ℕ). is_empty (slot_at (with_slot slots on slot) j) ≡ is_empty (slot_at slots j)) (sym e.1) (ap is_empty (slot_at-with_slot_same slots on slot) ∙ f)
  | inr d ↦ beside slots on slot l d.1
])

pub quiet_zero : (slots : LinkSlots) (on : ℕ) (slot : LinkSlot) → (on == 0) ≡ true → is_quiet (with_slot slots on slot) ≡ is_quiet slots
quiet_zero slots on slot z = quiet_same (with_slot slots on slot) slots (λ l y. beside slots on slot l (λ e. let nay : true ≡ false = sym z ∙ ap (λ (j : ℕ). j == 0) (sym e) ∙ y in absurd (cc)))

failed : (x : LinkSlot) → is_empty (answered Incomplete x) ≡ is_empty x
failed Slot.Empty = refl
failed (Slot.Ready m) = refl
failed (Slot.Travelling m) = refl
failed (Slot.Held m) = refl

dead : (x : LinkSlot) → is_empty (answered Dead x) ≡ is_empty x
dead Slot.Empty = refl
dead (Slot.Ready m) = refl
dead (Slot.Travelling m) = refl
dead (Slot.Held m) = refl

taken_seen : (on : ℕ) (how : Answer) (s : PeerState) (v : View) → OnLinks s → is_answered on s ≡ true → Stands s.peer (is_quiet s.slots) v → Stands (answer_taken on how s).peer (is_quiet (answer_taken on how s).slots) v
taken_seen on Incomplete s v a e k = stands_quiet s.peer (is_quiet s.slots) (is_quiet (with_slot s.slots on (answered Incomplete (slot_at s.slots on)))) v (quiet_filled s.slots on (answered Incomplete (slot_at s.slots on)) (failed (slot_at s.slots on))) k
taken_seen on Dead s v a e k = stands_quiet s.peer (is_quiet s.slots) (is_quiet (with_slot s.slots on (answered Dead (slot_at s.slots on)))) v (quiet_filled s.slots on (answered Dead (slot_at s.slots on)) (dead (slot_at s.slots on))) k
taken_seen on Rfnm s v a e k = by (on == control_link) refl
  where
    now : LinkSlots
    now = with_slot s.slots on (answered Rfnm (slot_at s.slots on))

    by : (b : Bool) → (on == control_link) ≡ b → Stands (settles (is_quiet now) (if b then s.peer else frees on s.peer)) (is_quiet now) v
    by true z =
        let w = stands_quiet s.peer (is_quiet s.slots) (is_quiet now) v (quiet_zero s.slots on (answered Rfnm (slot_at s.slots on)) z) k in
        settle_from s.peer (is_quiet now) v w.phased w.down w.unheard
    by false z =
        let w = freed_stands on s.peer v (stands_quiet s.peer (is_quiet s.slots) false v (sym (not_quiet s on a z (travelling (slot_at s.slots on) e))) k) in
        settle_from (frees on s.peer) (is_quiet now) v (quieted (frees on s.peer).phase (is_quiet now) v w.phased) w.down w.unheard

pub answer_seen : (on : ℕ) (how : Answer) (s : PeerState) (v : View) → OnLinks s → Stands s.peer (is_quiet s.slots) v → Stands (answer_comes on how s).peer (is_quiet (answer_comes on how s).slots) v
answer_seen on how s v a k = go (is_answered on s) refl
  where
    counted : PeerState
    counted = record s { counts = record s.counts { stray = one_more s.counts.stray } }

    go : (b : Bool) → is_answered on s ≡ b → Stands (if b then answer_taken on how s else counted).peer (is_quiet (if b then answer_taken on how s else counted).slots) v
    go true e = taken_seen on how s v a e k
    go false e = k

-- ---- a sent message

-- what is found in a message that is read is of what it says alone, and what is known after it
pub record Out (A : Monitor) (me n : ℕ) (fresh : Bool) (r : Result Message MessageFault) (p : Peer) (q : Bool) : Type 0 where
  pub none : Parts A me n me true fresh r
  pub stands : Stands p q (view_in (after_said A me n (turn_at A me n me true) fresh r).views me n)

-- again
pub again_out : (A : Monitor) (me n : ℕ) (r : Result Message MessageFault) (p : Peer) (q : Bool) → Stands p q (view_in A.views me n) → Out A me n false r p q
again_out A me n (Ok m) p q k = record { none = λ P t. refl; stands = k }
again_out A me n (Err fault) p q k = record { none = λ P t. refl; stands = k }

-- it is as suspended as before, and waits for as much
pub room_suspended : (me : ℕ) (busy : Option ℕ) (zero room : Bool) (v : View) → (after_room (record { by = me; sent = true; busy = busy; zero = zero }) room v).suspended ≡ v.suspended
room_suspended me busy zero true v = go (not v.told || is_answered_too_often v.host.wait)
  where
    go : (b : Bool) → (if b then record v { host = record v.host { wait = Even } } else v).suspended ≡ v.suspended
    go true = refl
    go false = refl
room_suspended me busy zero false v = refl

pub room_acts : (me : ℕ) (busy : Option ℕ) (zero room : Bool) (v : View) → (after_room (record { by = me; sent = true; busy = busy; zero = zero }) room v).acted ≡ v.acted
room_acts me busy zero true v = go (not v.told || is_answered_too_often v.host.wait)
  where
    go : (b : Bool) → (if b then record v { host = record v.host { wait = Even } } else v).acted ≡ v.acted
    go true = refl
    go false = refl
room_acts me busy zero false v = refl

pub room_waits : (me : ℕ) (busy : Option ℕ) (zero room : Bool) (v : View) → v.told ≡ true → awaits_reply (after_room (record { by = me; sent = true; busy = busy; zero = zero }) room v).host.wait ≡ awaits_reply v.host.wait
room_waits me busy zero true v t = grind arith
room_waits me busy zero false v t = refl

-- commands
pub commands_out : (A : Monitor) (me n : ℕ) (p : Peer) (q : Bool) → length A.views ≡ VIEWS → me < 256 → n < 256 → All IsCommand p.phase.waiting → Sees q (busy_link me n A.kept) → Stands p q (view_of A me n)
    → Out A me n true (Ok (message_with (leader_to n 0) 8 (bits_of_bytes (spellings (next_commands p.phase.waiting))))) (peer_sends p) q
commands_out A me n p q l a b c busy k = record {
  none = λ P t. control_parted P A me n me true text none_found none_left t;
  stands = subst (λ (x : View). Stands (peer_sends p) q x) (sym is) stands_after;
}
  where
    cs : List Command
    cs = next_commands p.phase.waiting

    rest : List Command
    rest = drop (length cs) p.phase.waiting

    text : List Bool
    text = bits_of_bytes (spellings cs)

    v : View
    v = view_of A me n

    w : AllWent me (busy_link me n A.kept) (knows_zero A me n) cs rest p.phase q v
    w = all_went me (busy_link me n A.kept) (knows_zero A me n) cs rest p.phase q v busy k.settled (subst (λ (x : List Command). Phased (record p.phase { waiting = x }) q v) (sym (next-first p.phase.waiting)) k.phased)

    after : View
    after = after_items (record { by = me; sent = true; busy = busy_link me n A.kept; zero = knows_zero A me n }) (items_of cs None) v

    spelled : bytes_of text ≡ spellings cs
    spelled = bytes_of-bits_of_bytes (spellings cs) (spellings_small cs (fitting_all MAX_CONTROL p.phase.waiting c))

    alone : (commands_in (spellings cs) ≡ cs) × (fault_in (spellings cs) ≡ None)
    alone = spelled_alone cs (fitting_all MAX_CONTROL p.phase.waiting c)

    items : items_said text ≡ items_of cs None
    items =
        ap (λ (bs : List ℕ). items_of (commands_in bs) (fault_in bs)) spelled
        ∙ ap (λ (ds : List Command). items_of ds (fault_in (spellings cs))) alone.0 ∙ ap (items_of cs) alone.1

    none_found : items_findings (record { by = me; sent = true; busy = busy_link me n A.kept; zero = knows_zero A me n }) (items_said text) v ≡ []
    none_found = ap (λ (said : List (Result Command CommandFault)). items_findings (record { by = me; sent = true; busy = busy_link me n A.kept; zero = knows_zero A me n }) said v) items ∙ w.none

    none_left : missing_finding (record { by = me; sent = true; busy = busy_link me n A.kept; zero = knows_zero A me n }) (shows_all text v) (after_items (record { by = me; sent = true; busy = busy_link me n A.kept; zero = knows_zero A me n }) (items_said text) v) ≡ None
    none_left =
        ap (λ (said : List (Result Command CommandFault)). missing_finding (record { by = me; sent = true; busy = busy_link me n A.kept; zero = knows_zero A me n }) (shows_all text v) (after_items (record { by = me; sent = true; busy = busy_link me n A.kept; zero = knows_zero A me n }) said v)) items
        ∙ none_missing me (busy_link me n A.kept) (knows_zero A me n) (shows_all text v) rest p.phase q after busy k.settled w.phased (roomy_left p.phase.waiting v c)

    read : List (Result Command CommandFault) → View
    read said = after_room (record { by = me; sent = true; busy = busy_link me n A.kept; zero = knows_zero A me n }) (shows_all text v) (after_items (record { by = me; sent = true; busy = busy_link me n A.kept; zero = knows_zero A me n }) said v)

    roomy : View
    roomy = after_room (record { by = me; sent = true; busy = busy_link me n A.kept; zero = knows_zero A me n }) (shows_all text v) after

    is : view_in (after_said A me n (turn_at A me n me true) true (Ok (message_with (leader_to n 0) 8 text))).views me n ≡ roomy
    is = view_same A.views me n (read (items_said text)) l a b ∙ ap read items

    still : roomy.suspended ≡ after.suspended
    still = room_suspended me (busy_link me n A.kept) (knows_zero A me n) (shows_all text v) after

    acts : roomy.acted ≡ after.acted
    acts = room_acts me (busy_link me n A.kept) (knows_zero A me n) (shows_all text v) after

    fewer : 0 < rrps rest → 0 < rrps p.phase.waiting
    fewer z =
        let e : rrps p.phase.waiting ≡ rrps cs + rrps rest = ap rrps (sym (next-first p.phase.waiting)) ∙ rrps-append cs rest in
        omega (arith, e, z)

    stands_after : Stands (peer_sends p) q roomy
    stands_after = record {
      phased = roomed me (busy_link me n A.kept) (knows_zero A me n) (shows_all text v) (peer_sends p).phase q after (roomy_left p.phase.waiting v c) w.phased;
      settled = k.settled;
      down = k.down;
      unheard = λ u r a z. k.unheard u (w.suspended u (sym still ∙ r)) (w.acted u (sym still ∙ r) (sym acts ∙ a) z) (fewer z);
    }

-- a text is sent by an end that heard a link

pub heard_some : (m : Ends) (on : ℕ) (t : ℕ × List Bool) → Unheard m → answer (cut_in on m) ≡ Some t → ⊥
heard_some m on t u e = go (sender_on on m) refl e
  where
    go : (o : Option (Pair × Endpoint)) → sender_on on m ≡ o → answer (cut_at o) ≡ Some t → ⊥
    go None f e = absurd (cc e)
    go (Some x) f e =
        let l = led (hears_link on) m x.0 (ap pair_of f) in
        let nay : true ≡ false = sym l.1 ∙ u on x.0 in
        absurd (cc)

-- a host that sends a text is up
sends_up : (on : ℕ) (t : ℕ × List Bool) (p : Peer) (q : Bool) (v : View) → answer (cut_in on p.ends) ≡ Some t → Stands p q v → up p.phase ≡ true
sends_up on t p q v cut k = go (up p.phase) refl
  where
    go : (b : Bool) → up p.phase ≡ b → b ≡ true
    go true e = refl
    go false e = absurd (heard_some p.ends on t (subst Unheard (sym (k.down e)) none_heard) cut)

sends_none : (on : ℕ) (t : ℕ × List Bool) (p : Peer) (q : Bool) (v : View) → answer (cut_in on p.ends) ≡ Some t → TextClear v → Stands p q v → v.suspended ≡ false → rrps p.phase.waiting ≡ 0
sends_none on t p q v cut clear k r = none_of (rrps p.phase.waiting) (λ some. heard_some p.ends on t (k.unheard (sends_up on t p q v cut k) r (clear r).1 some) cut)

pub record TextOnTime (me : ℕ) (busy : Option ℕ) (zero : Bool) (p : Peer) (q : Bool) (v : View) : Type 0 where
  pub up_is : up p.phase ≡ true
  pub none : v.suspended ≡ false → rrps p.phase.waiting ≡ 0
  pub early : early_finding (record { by = me; sent = true; busy = busy; zero = zero }) ItemKind.Text v ≡ None
  pub phased : Phased p.phase q (after_thing (record { by = me; sent = true; busy = busy; zero = zero }) ItemKind.Text v)

pub text_on_time : (me on : ℕ) (busy : Option ℕ) (zero : Bool) (t : ℕ × List Bool) (p : Peer) (q : Bool) (v : View) → answer (cut_in on p.ends) ≡ Some t → TextClear v → Stands p q v → TextOnTime me busy zero p q v
text_on_time me on busy zero t p q v cut clear k =
    let up_is = sends_up on t p q v cut k in
    let none = sends_none on t p q v cut clear k in
    let w = text_goes me busy zero p.phase q v up_is none (λ r. (clear r).0) k.phased in
    record { up_is = up_is; none = none; early = w.0; phased = w.1 }

text_view : (me : ℕ) (busy : Option ℕ) (zero : Bool) (m : Message) (v : View) → is_unused m.leader.link ≡ false → (m.leader.link == 0) ≡ false → after_read (message_class m) (record { by = me; sent = true; busy = busy; zero = zero }) m.text v ≡ after_thing (record { by = me; sent = true; busy = busy; zero = zero }) ItemKind.Text v
text_view me busy zero m v x y = rw (x, y) refl

pub text_out : (A : Monitor) (me n on : ℕ) (t : ℕ × List Bool) (p : Peer) (q now : Bool) → length A.views ≡ VIEWS → me < 256 → n < 256 → is_one_of on links ≡ true → (on == 0) ≡ false → answer (cut_in on p.ends) ≡ Some t → TextClear (view_of A me n) → Stands p q (view_of A me n)
    → Out A me n true (Ok (message_with (leader_to n on) t.0 t.1)) (cuts on p) now
text_out A me n on t p q now l me_small n_small u z cut clear k = record {
  none = λ P t. text_parted P A me n me true m (used on u) z w.early t;
  stands =
      subst (λ (x : View). Stands (cuts on p) now x)
      (sym (view_same A.views me n (after_read (message_class m) (record { by = me; sent = true; busy = busy_link me n A.kept; zero = knows_zero A me n }) m.text v) l me_small n_small ∙ text_view me (busy_link me n A.kept) (knows_zero A me n) m v (used on u) z))
      stands_after;
}
  where
    m : Message
    m = message_with (leader_to n on) t.0 t.1

    v : View
    v = view_of A me n

    w : TextOnTime me (busy_link me n A.kept) (knows_zero A me n) p q v
    w = text_on_time me on (busy_link me n A.kept) (knows_zero A me n) t p q v cut clear k

    after : View
    after = after_thing (record { by = me; sent = true; busy = busy_link me n A.kept; zero = knows_zero A me n }) ItemKind.Text v

    suspended : after.suspended ≡ false → v.suspended ≡ false
    suspended r = suspended_more v.suspended _ r

    stands_after : Stands (cuts on p) now after
    stands_after = record {
      phased = unquieted p.phase q now after w.up_is (λ r. w.none (suspended r)) (λ r. (clear (suspended r)).0) w.phased;
      settled = up_settled p.phase now w.up_is;
      down = λ e. absurd (cc (w.up_is, e));
      unheard = λ u r a z. absurd (no_reply (rrps p.phase.waiting) (w.none (suspended r)) z);
    }
