-- What is kept of the links of a host shows its slots, through each input.
use Rattle.std.proofs.Common.{◌≡◌, ◌≢◌, ◌⊎◌, inl, inr, ℕ, ◌==◌, Bool, true, false, not, ◌&&◌, if◌then◌else◌, List, Option, None, Some, Result, Ok, Err, filter, refl, sym, ap, ◌∙◌, subst}
use Rattle.std.proofs.lemmas.Bool.{and_parts, eqb-true}
use Rattle.std.proofs.lemmas.Bool.Decides.{eqb_tells}
use Rattle.ncp_leader.specs.declared.leader.Leader.{Leader}
use Rattle.ncp_leader.specs.declared.leader.Short.{Short}
use Rattle.ncp_leader.specs.Leader.{leader_in}
use Rattle.ncp_slot.specs.declared.slot.Slot.{Slot}
use Rattle.ncp_slot.specs.Slots.{LinkSlot, slot_at}
use Rattle.ncp_slot.proofs.Places.{slot_at-with_slot_same, slot_at-with_slot_other}
use Rattle.ncp_peer.specs.PeerState.{PeerState, answer_comes}
use Rattle.ncp_peer.specs.Hearing.{answer_of}
use Rattle.ncp_peer.specs.Output.{leader_to, after_output}
use Rattle.ncp_host.specs.Host.{Host, state_of, is_one_of}
use Rattle.ncp_host.specs.Arrivals.{received_in}
use Rattle.ncp_transcript.specs.declared.note.HostNote.{HostNote}
use Rattle.ncp_transcript.specs.After.{after_note}
use Rattle.ncp_transcript.specs.Noting.{if_peer, answer_with, note_as, note_of_bits}
use Rattle.ncp_transcript.specs.Runs.{IsHostSaid}
use Rattle.ncp_proof_runs.specs.Peers.{is_this_number, peer_of_leader, names, out_for, note_for}
use Rattle.ncp_proof_runs.proofs.States.{peer_there}
use Rattle.ncp_proof_runs.proofs.HostRuns.{Holds}
use Rattle.ncp_interface.specs.declared.sent_message.SentMessage.{SentMessage}
use Rattle.ncp_monitor.specs.declared.monitor.Monitor.{Monitor}
use Rattle.ncp_interface.specs.declared.imp_direction.ImpDirection.TheVariants.{ToImp, FromImp}
use Rattle.ncp_interface.specs.Events.{is_answer}
use Rattle.ncp_monitor.proofs.Following.{Keeps, out_keeps, short_is, other_is, own_is, in_keeps, answer_is}
use Rattle.ncp_monitor.specs.Tables.{view_in, with_view}
use Rattle.ncp_interface.specs.Slots.{is_of, position_of, gone_out, has_room, with_out, with_answer}
use Rattle.ncp_monitor.specs.Judged.{sees, slot_of_link, same_of, view_after_out, monitor_after_out, monitor_after_answer, judges_coming, with_coming, after_in, after_record}
use Rattle.ncp_proof_monitor.proofs.KeptOne.{Apart}
use Rattle.ncp_proof_monitor.proofs.Shown.{Shows, After, after_going, how_of, after_answering, after_coming, after_waking}
use Rattle.ncp_proof_monitor.proofs.HostSlots.{is_of_call, call_leaves, bits_leave, answer_here, answer_there, was}
use Rattle.ncp_proof_monitor.proofs.Leaders.{apart}

-- ---- the invariant

-- each slot of the host is shown by what is kept of its link
pub record Known (me : ℕ) (h : Host) (kept : List SentMessage) : Type 0 where
  pub agrees : (n : ℕ) (s : PeerState) → state_of h n ≡ Some s → (on : ℕ) → Shows (filter (is_of me n on) kept) (slot_at s.slots on)

-- while all unacknowledged messages are kept
abbrev pub Follows : ℕ → Host → Monitor → Type 0
Follows me h monitor = monitor.full ≡ false → Known me h monitor.kept

-- ---- links apart

pub key : (from to on : ℕ) (k : SentMessage) → is_of from to on k ≡ true → (k.from ≡ from) × (k.to ≡ to) × (k.link ≡ on)
key from to on k e =
    let one = and_parts (k.from == from && k.to == to) (k.link == on) e in
    let two = and_parts (k.from == from) (k.to == to) one.0 in
    (eqb-true k.from from two.0, eqb-true k.to to two.1, eqb-true k.link on one.1)

pub keys_distinct : (f t l g u m : ℕ) → ((f ≡ g) × (t ≡ u) × (l ≡ m) → ⊥) → Apart (is_of f t l) (is_of g u m)
keys_distinct f t l g u m nay k e = go (is_of g u m k) refl
  where
    go : (b : Bool) → is_of g u m k ≡ b → b ≡ false
    go true d =
        let one = key f t l k e in
        let two = key g u m k d in
        absurd (nay (sym one.0 ∙ two.0, sym one.1 ∙ two.1, sym one.2 ∙ two.2))
    go false d = refl

-- what is kept of one link becomes other, and so does the slot of it alone
pub keyed : (me n on : ℕ) (h after : Host) (kept now : List SentMessage)
    → ((q : SentMessage → Bool) → Apart (is_of me n on) q → filter q now ≡ filter q kept)
    → ((m : ℕ) (t : PeerState) → state_of after m ≡ Some t
    → (s : PeerState) × (state_of h m ≡ Some s) × ((at : ℕ) → ((m ≡ n) × (at ≡ on) → ⊥) → slot_at t.slots at ≡ slot_at s.slots at)
    × (m ≡ n → Shows (filter (is_of me n on) kept) (slot_at s.slots on) → Shows (filter (is_of me n on) now) (slot_at t.slots on)))
    → Known me h kept → Known me after now
keyed me n on h after kept now others slots k = record { agrees = agrees }
  where
    agrees : (m : ℕ) (t : PeerState) → state_of after m ≡ Some t → (at : ℕ) → Shows (filter (is_of me m at) now) (slot_at t.slots at)
    agrees m t e at = by (eqb_tells m n) (eqb_tells at on)
      where
        w : (s : PeerState) × (state_of h m ≡ Some s) × ((at : ℕ) → ((m ≡ n) × (at ≡ on) → ⊥) → slot_at t.slots at ≡ slot_at s.slots at)
            × (m ≡ n → Shows (filter (is_of me n on) kept) (slot_at s.slots on) → Shows (filter (is_of me n on) now) (slot_at t.slots on))
        w = slots m t e

        there : ((m ≡ n) × (at ≡ on) → ⊥) → Shows (filter (is_of me m at) now) (slot_at t.slots at)
        there nay =
            let list : filter (is_of me m at) now ≡ filter (is_of me m at) kept = others (is_of me m at) (keys_distinct me n on me m at (λ same. nay (sym same.1, sym same.2))) in
            subst (λ (xs : List SentMessage). Shows xs (slot_at t.slots at)) (sym list)
            (subst (λ (x : LinkSlot). Shows (filter (is_of me m at) kept) x) (sym (w.2 at nay)) (k.agrees m w.0 w.1 at))

        here : m ≡ n → at ≡ on → Shows (filter (is_of me m at) now) (slot_at t.slots at)
        here same link =
            subst (λ (j : ℕ). Shows (filter (is_of me j at) now) (slot_at t.slots at)) (sym same)
            (subst (λ (l : ℕ). Shows (filter (is_of me n l) now) (slot_at t.slots l)) (sym link)
            (w.3 same (subst (λ (j : ℕ). Shows (filter (is_of me j on) kept) (slot_at w.0.slots on)) same (k.agrees m w.0 w.1 on))))

        by : (((m == n) ≡ true) × (m ≡ n)) ⊎ (((m == n) ≡ false) × (m ≢ n)) → (((at == on) ≡ true) × (at ≡ on)) ⊎ (((at == on) ≡ false) × (at ≢ on)) → Shows (filter (is_of me m at) now) (slot_at t.slots at)
        by (inl same) (inl link) = here same.1 link.1
        by (inl same) (inr link) = there (λ both. link.1 both.1)
        by (inr other) link = there (λ both. other.1 both.0)

-- ---- what changes no link

stays : (ns : List ℕ) (me : ℕ) (note : HostNote) (h : Host) (kept : List SentMessage) → Holds ns h → IsHostSaid note h
    → ((s : PeerState) (on : ℕ) (of_link : List SentMessage) → Shows of_link (slot_at s.slots on) → Shows of_link (slot_at (note_for note s).slots on))
    → Known me h kept → Known me (after_note note h) kept
stays ns me note h kept k p leaves known = record { agrees = agrees }
  where
    agrees : (m : ℕ) (t : PeerState) → state_of (after_note note h) m ≡ Some t → (on : ℕ) → Shows (filter (is_of me m on) kept) (slot_at t.slots on)
    agrees m t e on = let w = was ns note h m t k p e in subst (λ (x : PeerState). Shows (filter (is_of me m on) kept) (slot_at x.slots on)) (sym w.2) (by w.0 (names m note) (known.agrees m w.0 w.1 on))
      where
        by : (s : PeerState) (b : Bool) → Shows (filter (is_of me m on) kept) (slot_at s.slots on) → Shows (filter (is_of me m on) kept) (slot_at (if b then note_for note s else s).slots on)
        by s true shown = leaves s on (filter (is_of me m on) kept) shown
        by s false shown = shown

pub after_call : (ns : List ℕ) (me : ℕ) (note : HostNote) (h : Host) (monitor : Monitor) → Holds ns h → IsHostSaid note h → is_of_call note ≡ true → Follows me h monitor → Follows me (after_note note h) monitor
after_call ns me note h monitor k p c f full = stays ns me note h monitor.kept k p leaves (f full)
  where
    leaves : (s : PeerState) (on : ℕ) (of_link : List SentMessage) → Shows of_link (slot_at s.slots on) → Shows of_link (slot_at (note_for note s).slots on)
    leaves s on of_link shown = elim (call_leaves note c s on) [
      | inl e ↦ subst (λ (x : LinkSlot). Shows of_link x) (sym e) shown
      | inr e ↦ subst (λ (x : LinkSlot). Shows of_link x) (sym e) (after_waking of_link (slot_at s.slots on) shown)
    ]

-- ---- where what is kept stays

as_kept : (me : ℕ) (h : Host) (one other : Monitor) → Keeps one other → Follows me h one → Follows me h other
as_kept me h one other e f full = subst (λ (xs : List SentMessage). Known me h xs) (sym e.0) (f (sym e.1 ∙ full))

-- an update that is made unless too many messages are unacknowledged
guarded : (me : ℕ) (h : Host) (monitor done : Monitor) (b : Bool) → monitor.full ≡ b → (b ≡ false → Follows me h done) → Follows me h (if b then monitor else done)
guarded me h monitor done true g f e = let nay : true ≡ false = sym g ∙ e in absurd (cc)
guarded me h monitor done false g f e = f refl e

-- ---- a message is sent

abbrev filled : Monitor → ℕ → ℕ → ℕ → List Bool → Monitor
filled monitor me n on bits =
    let place = position_of me n on monitor.kept in
    record monitor {
      full = not (has_room monitor.kept place);
      views = with_view monitor.views me n (view_after_out (view_in monitor.views me n) on (slot_of_link monitor me n on) (same_of monitor me n on bits));
      kept = with_out monitor.kept place (gone_out me n on bits);
    }

pub after_out_of : (ns : List ℕ) (me n on : ℕ) (h : Host) (monitor : Monitor) (bits : List Bool) (found : PeerState) → Holds ns h → IsHostSaid (HostNote.Out bits) h → leader_in bits ≡ Ok (leader_to n on) → (n == me) ≡ false
    → state_of h n ≡ Some found → Follows me h monitor → Follows me (after_note (HostNote.Out bits) h) (after_record monitor ToImp me bits)
after_out_of ns me n on h monitor bits found k p led away there f =
    let v = sees monitor me in
    as_kept me (after_note (HostNote.Out bits) h) (monitor_after_out v me n on bits) (after_record monitor ToImp me bits) (out_keeps monitor me n on bits led away)
    (guarded me (after_note (HostNote.Out bits) h) v (filled v me n on bits) monitor.full refl room)
  where
    kept : List SentMessage
    kept = monitor.kept

    now : List SentMessage
    now = with_out kept (position_of me n on kept) (gone_out me n on bits)

    slots : Known me h kept → After (is_of me n on) kept now (Slot.Travelling bits) → (m : ℕ) (t : PeerState) → state_of (after_note (HostNote.Out bits) h) m ≡ Some t
        → (s : PeerState) × (state_of h m ≡ Some s) × ((at : ℕ) → ((m ≡ n) × (at ≡ on) → ⊥) → slot_at t.slots at ≡ slot_at s.slots at)
        × (m ≡ n → Shows (filter (is_of me n on) kept) (slot_at s.slots on) → Shows (filter (is_of me n on) now) (slot_at t.slots on))
    slots known done m t e = go (was ns (HostNote.Out bits) h m t k p e)
      where
        go : (s : PeerState) × (state_of h m ≡ Some s) × (t ≡ (if names m (HostNote.Out bits) then note_for (HostNote.Out bits) s else s))
            → (s : PeerState) × (state_of h m ≡ Some s) × ((at : ℕ) → ((m ≡ n) × (at ≡ on) → ⊥) → slot_at t.slots at ≡ slot_at s.slots at)
            × (m ≡ n → Shows (filter (is_of me n on) kept) (slot_at s.slots on) → Shows (filter (is_of me n on) now) (slot_at t.slots on))
        go w = by (eqb_tells n m)
          where
            s : PeerState
            s = w.0

            is : t ≡ (if n == m then after_output on bits s else s)
            is = w.2 ∙ ap (λ (r : Result Leader Short). if is_this_number m (peer_of_leader r) then out_for r bits s else s) led

            by : (((n == m) ≡ true) × (n ≡ m)) ⊎ (((n == m) ≡ false) × (n ≢ m))
                → (s : PeerState) × (state_of h m ≡ Some s) × ((at : ℕ) → ((m ≡ n) × (at ≡ on) → ⊥) → slot_at t.slots at ≡ slot_at s.slots at)
                × (m ≡ n → Shows (filter (is_of me n on) kept) (slot_at s.slots on) → Shows (filter (is_of me n on) now) (slot_at t.slots on))
            by (inl same) =
                let here : t ≡ after_output on bits s = is ∙ ap (λ (b : Bool). if b then after_output on bits s else s) same.0 in (
                  s,
                  w.1,
                  λ at nay. ap (λ (x : PeerState). slot_at x.slots at) here ∙ slot_at-with_slot_other s.slots on (Slot.Travelling bits) at (λ link. nay (sym same.1, link)),
                  λ i shown. subst (λ (x : LinkSlot). Shows (filter (is_of me n on) now) x) (sym (ap (λ (x : PeerState). slot_at x.slots on) here ∙ slot_at-with_slot_same s.slots on (Slot.Travelling bits))) done.shown,
                )
            by (inr other) =
                let here : t ≡ s = is ∙ ap (λ (b : Bool). if b then after_output on bits s else s) other.0 in
                (s, w.1, λ at nay. ap (λ (x : PeerState). slot_at x.slots at) here, λ i. absurd (other.1 (sym i)))

    there_is : (b : Bool) → not b ≡ false → b ≡ true
    there_is true e = refl
    there_is false e = absurd (cc)

    room : monitor.full ≡ false → Follows me (after_note (HostNote.Out bits) h) (filled (sees monitor me) me n on bits)
    room full e =
        let known = f full in
        let done = after_going me n on kept (slot_at found.slots on) bits (known.agrees n found there on) (there_is (has_room kept (position_of me n on kept)) e) in
        keyed me n on h (after_note (HostNote.Out bits) h) kept now done.others (slots known done) known

-- ---- bits come

-- those that are no answer
in_leaves : (ns : List ℕ) (me : ℕ) (h : Host) (monitor : Monitor) (bits : List Bool) → Holds ns h → IsHostSaid (HostNote.In bits (received_in bits h)) h → Follows me h monitor → Follows me (after_note (HostNote.In bits (received_in bits h)) h) monitor
in_leaves ns me h monitor bits k p f full =
    stays ns me (HostNote.In bits (received_in bits h)) h monitor.kept k p
    (λ s on of_link shown. subst (λ (x : LinkSlot). Shows of_link x) (sym (bits_leave (leader_in bits) bits s on)) shown)
    (f full)

-- what is kept of the links of one host, where what is kept of another's changes
pub distinct_known : (me other to on : ℕ) (h : Host) (kept now : List SentMessage) → (other == me) ≡ false → ((q : SentMessage → Bool) → Apart (is_of other to on) q → filter q now ≡ filter q kept) → Known me h kept → Known me h now
distinct_known me other to on h kept now e others known = record {
  agrees = λ m t there l.
      subst (λ (xs : List SentMessage). Shows xs (slot_at t.slots l)) (sym (others (is_of me m l) (keys_distinct other to on me m l (λ same. let nay : true ≡ false = sym (ours same.0) ∙ e in absurd (cc))))) (known.agrees m t there l);
}
  where
    ours : other ≡ me → (other == me) ≡ true
    ours same = elim (eqb_tells other me) [
      | inl one_is ↦ one_is.0
      | inr nay ↦ absurd (nay.1 same)
    ]

-- a message of another host
pub coming_keeps : (me : ℕ) (h : Host) (monitor : Monitor) (peer link : ℕ) → (peer == me) ≡ false → Follows me h monitor → Follows me h (after_in monitor me peer link)
coming_keeps me h monitor peer link e f = by (judges_coming monitor me peer)
  where
    by : (b : Bool) → Follows me h (if b then record monitor { kept = with_coming monitor.kept (position_of peer me link monitor.kept) } else monitor)
    by true full = distinct_known me peer me link h monitor.kept (with_coming monitor.kept (position_of peer me link monitor.kept)) e (after_coming peer me link monitor.kept).0 (f full)
    by false full = f full

-- an answer, of a peer and of another host

abbrev with_kept : Monitor → ℕ → ℕ → ℕ → ℕ → Monitor
with_kept monitor kind me n on = record monitor { kept = with_answer (view_in monitor.views me n).known kind monitor.kept (position_of me n on monitor.kept) }

answer_of_peer : (ns : List ℕ) (me : ℕ) (h : Host) (monitor : Monitor) (bits : List Bool) (leader : Leader) → Holds ns h → (note : HostNote) → IsHostSaid note h
    → note ≡ HostNote.Answered leader.host leader.link (answer_of leader.kind) (received_in bits h) → Follows me h monitor
    → Follows me (after_note note h) (monitor_after_answer monitor leader.kind me leader.host leader.link)
answer_of_peer ns me h monitor bits leader k note p is f =
    guarded me (after_note note h) monitor (with_kept monitor leader.kind me leader.host leader.link) monitor.full refl answered
  where
    n : ℕ
    n = leader.host

    on : ℕ
    on = leader.link

    now : List SentMessage
    now = with_answer (view_in monitor.views me n).known leader.kind monitor.kept (position_of me n on monitor.kept)

    Slots : ℕ → PeerState → Type 0
    Slots m t =
        (s : PeerState) × (state_of h m ≡ Some s) × ((at : ℕ) → ((m ≡ n) × (at ≡ on) → ⊥) → slot_at t.slots at ≡ slot_at s.slots at)
        × (m ≡ n → Shows (filter (is_of me n on) monitor.kept) (slot_at s.slots on) → Shows (filter (is_of me n on) now) (slot_at t.slots on))

    slots : (m : ℕ) (t : PeerState) → state_of (after_note note h) m ≡ Some t → Slots m t
    slots m t e = go (was ns note h m t k p e)
      where
        go : (s : PeerState) × (state_of h m ≡ Some s) × (t ≡ (if names m note then note_for note s else s)) → Slots m t
        go w = by (eqb_tells n m)
          where
            s : PeerState
            s = w.0

            become : t ≡ (if n == m then answer_comes on (how_of leader.kind) s else s)
            become = w.2 ∙ ap (λ (x : HostNote). if names m x then note_for x s else s) is

            by : (((n == m) ≡ true) × (n ≡ m)) ⊎ (((n == m) ≡ false) × (n ≢ m)) → Slots m t
            by (inl same) =
                let here : t ≡ answer_comes on (how_of leader.kind) s = become ∙ ap (λ (b : Bool). if b then answer_comes on (how_of leader.kind) s else s) same.0 in (
                  s,
                  w.1,
                  λ at nay. ap (λ (x : PeerState). slot_at x.slots at) here ∙ answer_there on at (how_of leader.kind) s (λ link. nay (sym same.1, link)),
                  λ i shown. subst (λ (x : LinkSlot). Shows (filter (is_of me n on) now) x) (sym (ap (λ (x : PeerState). slot_at x.slots on) here ∙ answer_here on (how_of leader.kind) s))
                      ((after_answering me n on (view_in monitor.views me n).known leader.kind monitor.kept).1 (slot_at s.slots on) shown),
                )
            by (inr other) =
                let here : t ≡ s = become ∙ ap (λ (b : Bool). if b then answer_comes on (how_of leader.kind) s else s) other.0 in
                (s, w.1, λ at nay. ap (λ (x : PeerState). slot_at x.slots at) here, λ i. absurd (other.1 (sym i)))

    answered : monitor.full ≡ false → Follows me (after_note note h) (with_kept monitor leader.kind me n on)
    answered full e =
        keyed me n on h (after_note note h) monitor.kept now (after_answering me n on (view_in monitor.views me n).known leader.kind monitor.kept).0 slots (f full)

answer_of_other : (me : ℕ) (h : Host) (monitor : Monitor) (kind n on : ℕ) → state_of h n ≡ None → Follows me h monitor → Follows me h (monitor_after_answer monitor kind me n on)
answer_of_other me h monitor kind n on none f = guarded me h monitor (with_kept monitor kind me n on) monitor.full refl answered
  where
    now : List SentMessage
    now = with_answer (view_in monitor.views me n).known kind monitor.kept (position_of me n on monitor.kept)

    slots : (m : ℕ) (t : PeerState) → state_of h m ≡ Some t
        → (s : PeerState) × (state_of h m ≡ Some s) × ((at : ℕ) → ((m ≡ n) × (at ≡ on) → ⊥) → slot_at t.slots at ≡ slot_at s.slots at)
        × (m ≡ n → Shows (filter (is_of me n on) monitor.kept) (slot_at s.slots on) → Shows (filter (is_of me n on) now) (slot_at t.slots on))
    slots m t e = (t, e, λ at nay. refl, λ same. let nay : None ≡ Some t = sym none ∙ ap (state_of h) (sym same) ∙ e in absurd (cc))

    answered : monitor.full ≡ false → Follows me h (with_kept monitor kind me n on)
    answered full e = keyed me n on h h monitor.kept now (after_answering me n on (view_in monitor.views me n).known kind monitor.kept).0 slots (f full)

-- no answer is regular
pub no_regular : (kind : ℕ) → is_answer kind ≡ true → (kind == 0) ≡ false
no_regular kind a = go (kind == 0) refl
  where
    go : (b : Bool) → (kind == 0) ≡ b → b ≡ false
    go true e = let nay : false ≡ true = sym (ap is_answer (eqb-true kind 0 e)) ∙ a in absurd (cc)
    go false e = refl

pub after_in_of : (ns : List ℕ) (me : ℕ) (h : Host) (monitor : Monitor) (bits : List Bool) (note : HostNote) → Holds ns h → is_one_of me ns ≡ false → IsHostSaid note h → note ≡ note_of_bits bits h
    → Follows me h monitor → Follows me (after_note note h) (after_record monitor FromImp me bits)
after_in_of ns me h monitor bits note k away p is f = go (leader_in bits) refl
  where
    v : Monitor
    v = sees monitor me

    now : Host
    now = after_note note h

    counterpart : (after : Monitor) → after_record monitor FromImp me bits ≡ after → Follows me now after → Follows me now (after_record monitor FromImp me bits)
    counterpart after e g = subst (λ (u : Monitor). Follows me now u) (sym e) g

    -- where the note is that of no answer
    plain : (u : Monitor) → note ≡ HostNote.In bits (received_in bits h) → Follows me h u → Follows me now u
    plain u e g = subst (λ (x : HostNote). Follows me (after_note x h) u) (sym e) (in_leaves ns me h u bits k (subst (λ (x : HostNote). IsHostSaid x h) e p) g)

    by : (leader : Leader) → leader_in bits ≡ Ok leader → (b : Bool) → (leader.host == me) ≡ b → (z : Bool) → (leader.kind == 0) ≡ z → (a : Bool) → is_answer leader.kind ≡ a → (o : Option PeerState) → state_of h leader.host ≡ o
        → note ≡ note_as (if a then if_peer o leader else None) bits (received_in bits h)
        → Follows me now (after_record monitor FromImp me bits)
    by leader led b own true zero true answer o there e = let nay : true ≡ false = sym zero ∙ no_regular leader.kind answer in absurd (cc)
    by leader led b own false zero false answer o there e = counterpart v (other_is monitor me bits leader b led own zero answer) (plain v e f)
    by leader led true own true zero false answer o there e = counterpart v (own_is monitor me bits leader true false led own zero answer) (plain v e f)
    by leader led false own true zero false answer o there e =
        as_kept me now (after_in v me leader.host leader.link) (after_record monitor FromImp me bits) (in_keeps monitor me bits leader false led own zero answer)
        (coming_keeps me now v leader.host leader.link own (plain v e f))
    by leader led true own false zero true answer None there e = counterpart v (own_is monitor me bits leader false true led own zero answer) (plain v e f)
    by leader led false own false zero true answer None there e =
        let after = monitor_after_answer v leader.kind me leader.host leader.link in
        counterpart after (answer_is monitor me bits leader led own zero answer) (plain after e (answer_of_other me h v leader.kind leader.host leader.link there f))
    by leader led true own false zero true answer (Some s) there e =
        let here : is_one_of leader.host ns ≡ true = ap (is_one_of leader.host) (sym k.numbers) ∙ peer_there h.peers leader.host s there in
        let nay : true ≡ false = sym own ∙ apart me leader.host ns away here in
        absurd (cc)
    by leader led false own false zero true answer (Some s) there e =
        counterpart (monitor_after_answer v leader.kind me leader.host leader.link) (answer_is monitor me bits leader led own zero answer) (answer_of_peer ns me h v bits leader k note p e f)

    go : (r : Result Leader Short) → leader_in bits ≡ r → Follows me now (after_record monitor FromImp me bits)
    go (Err short) e = counterpart v (short_is monitor me bits short e) (plain v (is ∙ ap (λ (r : Result Leader Short). note_as (answer_with r h) bits (received_in bits h)) e) f)
    go (Ok leader) e =
        by leader e (leader.host == me) refl (leader.kind == 0) refl (is_answer leader.kind) refl (state_of h leader.host) refl
        (is ∙ ap (λ (r : Result Leader Short). note_as (answer_with r h) bits (received_in bits h)) e)
