-- The facts about the flow between a host and all its peers, through sent and received messages: no rule
-- finds the host wrong.
use Rattle.std.proofs.Common.{◌≡◌, ◌≢◌, ◌⊎◌, inl, inr, ℕ, ◌<◌, ◌==◌, Bool, true, false, not, ◌&&◌, if◌then◌else◌, List, [], length, Option, None, Some, Result, Ok, Err, filter, refl, sym, ap, ◌∙◌, subst}
use Rattle.std.proofs.lemmas.Bool.{eqb-true}
use Rattle.std.proofs.lemmas.Bool.Decides.{eqb_tells}
use Rattle.ncp_leader.specs.declared.fault.MessageFault.{MessageFault}
use Rattle.ncp_leader.specs.declared.leader.Leader.{Leader}
use Rattle.ncp_leader.specs.declared.leader.Short.{Short}
use Rattle.ncp_leader.specs.Leader.{leader_in}
use Rattle.ncp_leader.specs.Message.{Message, message_in}
use Rattle.ncp_leader.proofs.Messages.{message_leader}
use Rattle.ncp_wire.specs.declared.answer.Answer.{Answer}
use Rattle.ncp_wire.specs.declared.answer.Answer.TheVariants.{Rfnm, Incomplete, Dead}
use Rattle.ncp_slot.specs.Slots.{slot_at, is_quiet}
use Rattle.ncp_model.specs.Effect.{answer}
use Rattle.ncp_model.specs.Peers.{Peer}
use Rattle.ncp_peer.specs.PeerState.{PeerState, answer_comes}
use Rattle.ncp_peer.specs.Hearing.{rfnm, destination_dead, incomplete, message_after, answer_of}
use Rattle.ncp_host.specs.Host.{Host, state_of, is_one_of}
use Rattle.ncp_host.specs.Arrivals.{received_in}
use Rattle.ncp_peer.specs.Soundness.{IsSound}
use Rattle.ncp_host.proofs.Sound.{sound-calls, sound-echo, sound-reset, sound-wakes, sound-bits}
use Rattle.ncp_transcript.specs.Asked.{Asked, Asks, Asks_echo, Asks_reset, Asks_wake}
use Rattle.ncp_transcript.specs.declared.note.HostNote.{HostNote}
use Rattle.ncp_transcript.specs.After.{after_note}
use Rattle.ncp_transcript.specs.Noting.{answer_with, if_peer, note_as, note_of_bits}
use Rattle.ncp_transcript.specs.Runs.{IsHostSaid}
use Rattle.ncp_proof_runs.specs.Peers.{is_this_number, peer_of_leader, names, state_asked, bits_for, note_for}
use Rattle.ncp_proof_runs.proofs.States.{peer_there}
use Rattle.ncp_proof_runs.proofs.HostRuns.{Holds}
use Rattle.ncp_monitor.specs.declared.monitor.Monitor.{Monitor}
use Rattle.ncp_monitor.specs.declared.view.View.{View}
use Rattle.ncp_interface.specs.declared.imp_direction.ImpDirection.TheVariants.{FromImp}
use Rattle.ncp_interface.specs.Events.{is_answer}
use Rattle.ncp_monitor.specs.ConnStates.{SeenTables}
use Rattle.ncp_monitor.specs.Tables.{view_in}
use Rattle.ncp_interface.specs.Slots.{position_of, is_of, busy_link, with_answer}
use Rattle.ncp_interface.specs.Contents.{message_class}
use Rattle.ncp_monitor.specs.Judged.{next_number, sees, view_of, knows_zero, monitor_after_answer, judges_coming, with_coming, after_in, turn_at, after_read, after_said, after_record}
use Rattle.ncp_monitor.proofs.Following.{said_keeps, short_is, other_is, own_is, in_is, answer_is}
use Rattle.ncp_proof_monitor.proofs.Leaders.{apart}
use Rattle.ncp_proof_monitor.proofs.Linked.{Follows, coming_keeps, no_regular}
use Rattle.ncp_proof_monitor.proofs.HostSlots.{is_of_call, asked_of_note, note_asked, was}
use Rattle.ncp_proof_monitor.proofs.ReadyPeers.{AllReady}
use Rattle.ncp_proof_monitor.proofs.Fine.{PeerInvariant}
use Rattle.ncp_proof_monitor.proofs.Shown.{Shows}
use Rattle.ncp_proof_monitor.proofs.Fresh.{sees_busy}
use Rattle.ncp_proof_monitor.proofs.Phased.{Sees}
use Rattle.ncp_proof_monitor.proofs.PhaseSteps.{Stands}
use Rattle.ncp_proof_monitor.proofs.PhaseSeen.{Seen, stands_as, view_same}
use Rattle.ncp_proof_monitor.proofs.PhaseWalk.{AllSeen, said_other, not_full}
use Rattle.ncp_proof_monitor_allocation.proofs.TidyBooks.{Tidy}
use Rattle.ncp_proof_monitor_host.proofs.Carries.{Carries}
use Rattle.ncp_proof_monitor_host.proofs.ShowsKept.{shows_busy}
use Rattle.ncp_proof_monitor_host.proofs.Borne.{Borne}
use Rattle.ncp_proof_monitor_host.proofs.CarriesOn.{quiet_reports, asked_carries, message_carries, answer_carries}
use Rattle.ncp_proof_monitor_host.proofs.Spoken.{Spoken}
use Rattle.ncp_proof_monitor_host.proofs.Begun.{alike_reports, alike_clear}
use Rattle.ncp_proof_monitor_allocation.proofs.Elsewhere.{Alike}
use Rattle.ncp_proof_monitor_host.proofs.SpokenOut.{Known}
use Rattle.ncp_proof_monitor_host.proofs.SpokenHost.{call_spoken, answer_spoken, spoken_as}
use Rattle.ncp_proof_monitor_replies.proofs.BooksRead.{Reads, said_reads, said_alikes}
use Rattle.ncp_proof_monitor_replies.proofs.BooksRecord.{in_tables, answer_tables, numbered_alike}
use Rattle.ncp_proof_monitor_host.proofs.PeerIn.{message_heard}

-- ---- what is known of all peers

pub record AllSpoken (me : ℕ) (h : Host) (monitor : Monitor) : Type 0 where
  pub tidy : monitor.conn_tables.full ≡ false → Tidy monitor.conn_tables
  pub carries : monitor.full ≡ false → (n : ℕ) (s : PeerState) → state_of h n ≡ Some s → Carries s.peer s.slots
  pub spoken : monitor.full ≡ false → monitor.conn_tables.full ≡ false → (n : ℕ) (s : PeerState) → state_of h n ≡ Some s → Spoken me n s.peer (view_in monitor.views me n) monitor.conn_tables

-- what was said between others
pub spoken_alike : (me n : ℕ) (p : Peer) (v : View) (b now : SeenTables) → Alike me n b now → Spoken me n p v b → Spoken me n p v now
spoken_alike me n p v b now a k = record {
  owed = λ r i o. alike_clear me n b now a (k.owed r i o);
  unmade = λ r o. alike_clear me n b now a (k.unmade r o);
  waits = λ w. alike_clear me n b now a (k.waits w);
  tells = λ r z u. alike_reports me n b now a p.ends p.echoes.awaited p.phase.waiting (k.tells r z u);
}

-- the next record is judged
pub numbered_spoken : (me n : ℕ) (p : Peer) (v : View) (b : SeenTables) → Spoken me n p v b → Spoken me n p v (next_number b)
numbered_spoken me n p v b k = spoken_alike me n p v b (next_number b) (numbered_alike me n b) k

-- ---- what a host has for a peer is sound

borne_of : (s : PeerState) → Carries s.peer s.slots → Borne s.peer s.slots
borne_of s k = record { proper = k.proper; sexes = k.sexes; busy = k.busy; leaving = k.leaving }

pub sound_of : (s : PeerState) (q : Bool) (v : View) → Carries s.peer s.slots → Stands s.peer q v → IsSound s
sound_of s q v c k = record { ends = c.agree; down = k.down }

asked_sound : (o : Option (ℕ × Asked)) (s : PeerState) → IsSound s → IsSound (state_asked o s)
asked_sound None s k = k
asked_sound (Some (peer, Asks pair call)) s k = sound-calls pair call s.peer s.slots k
asked_sound (Some (peer, Asks_echo byte)) s k = sound-echo byte s.peer s.slots k
asked_sound (Some (peer, Asks_reset)) s k = sound-reset (is_quiet s.slots) s.peer s.slots k
asked_sound (Some (peer, Asks_wake)) s k = sound-wakes s k

message_sound : (link : ℕ) (bits : List Bool) (s : PeerState) → IsSound s → IsSound (message_after link bits (message_in bits) s)
message_sound link bits s k = sound-bits (record { flags = 0; kind = 0; host = 0; link = link; low = 0 }) bits s k

answer_sound : (link : ℕ) (how : Answer) (s : PeerState) → IsSound s → IsSound (answer_comes link how s)
answer_sound link Rfnm s k = sound-bits (record { flags = 0; kind = rfnm; host = 0; link = link; low = 0 }) [] s k
answer_sound link Incomplete s k = sound-bits (record { flags = 0; kind = incomplete; host = 0; link = link; low = 0 }) [] s k
answer_sound link Dead s k = sound-bits (record { flags = 0; kind = destination_dead; host = 0; link = link; low = 0 }) [] s k

-- ---- calls

call_carries : (note : HostNote) (s : PeerState) (v : View) → is_of_call note ≡ true → PeerInvariant s.peer → Seen s v → Carries s.peer s.slots → Carries (note_for note s).peer (note_for note s).slots
call_carries note s v c fine o k =
    subst (λ (now : PeerState). Carries now.peer now.slots) (note_asked note c s)
    (asked_carries (asked_of_note note) s fine.good.sound o.used (asked_sound (asked_of_note note) s (sound_of s (is_quiet s.slots) v k o.stands)).ends k)

pub call_talks : (ns : List ℕ) (me : ℕ) (note : HostNote) (h : Host) (monitor : Monitor) → Holds ns h → IsHostSaid note h → is_of_call note ≡ true → AllReady h → AllSeen me h monitor → AllSpoken me h monitor → AllSpoken me (after_note note h) monitor
call_talks ns me note h monitor k p c ready seen all = record {
  tidy = all.tidy;
  carries = λ full n t e. let w = was ns note h n t k p e in subst (λ (x : PeerState). Carries x.peer x.slots) (sym w.2) (held full n w.0 w.1 (names n note));
  spoken = λ full room n t e. let w = was ns note h n t k p e in subst (λ (x : PeerState). Spoken me n x.peer (view_in monitor.views me n) monitor.conn_tables) (sym w.2) (said full room n w.0 w.1 (names n note));
}
  where
    held : monitor.full ≡ false → (n : ℕ) (s : PeerState) → state_of h n ≡ Some s → (b : Bool) → Carries (if b then note_for note s else s).peer (if b then note_for note s else s).slots
    held full n s there true = call_carries note s (view_in monitor.views me n) c (ready n s there).fine (seen.each full n s there) (all.carries full n s there)
    held full n s there false = all.carries full n s there

    said : monitor.full ≡ false → monitor.conn_tables.full ≡ false → (n : ℕ) (s : PeerState) → state_of h n ≡ Some s → (b : Bool) → Spoken me n (if b then note_for note s else s).peer (view_in monitor.views me n) monitor.conn_tables
    said full room n s there true = call_spoken me n note s (view_in monitor.views me n) monitor.conn_tables c (ready n s there).fine.good (all.carries full n s there).sexes (all.spoken full room n s there)
    said full room n s there false = all.spoken full room n s there

-- ---- what comes

-- nothing of it is changed
calm_talks : (ns : List ℕ) (me : ℕ) (note : HostNote) (h : Host) (monitor u : Monitor) → Holds ns h → IsHostSaid note h → u.views ≡ monitor.views → u.full ≡ monitor.full → u.conn_tables ≡ next_number monitor.conn_tables
    → ((m : ℕ) (s : PeerState) → state_of h m ≡ Some s → (if names m note then note_for note s else s) ≡ s)
    → AllSpoken me h monitor → AllSpoken me (after_note note h) u
calm_talks ns me note h monitor u k p v f b same all = record {
  tidy = λ room. subst Tidy (sym b) (all.tidy (ap (λ (x : SeenTables). x.full) (sym b) ∙ room));
  carries = λ full n t e. let w = was ns note h n t k p e in subst (λ (x : PeerState). Carries x.peer x.slots) (sym (w.2 ∙ same n w.0 w.1)) (all.carries (sym f ∙ full) n w.0 w.1);
  spoken = λ full room n t e.
      let w = was ns note h n t k p e in
      subst (λ (x : PeerState). Spoken me n x.peer (view_in u.views me n) u.conn_tables) (sym (w.2 ∙ same n w.0 w.1))
      (subst (λ (x : List View). Spoken me n w.0.peer (view_in x me n) u.conn_tables) (sym v)
      (subst (λ (x : SeenTables). Spoken me n w.0.peer (view_in monitor.views me n) x) (sym b) (numbered_spoken me n w.0.peer (view_in monitor.views me n) monitor.conn_tables (all.spoken (sym f ∙ full) (ap (λ (x : SeenTables). x.full) (sym b) ∙ room) n w.0 w.1))));
}

-- bits that are no regular message of a peer
unread : (bits : List Bool) (h : Host) → (r : Result Leader Short) → leader_in bits ≡ r → ((leader : Leader) → r ≡ Ok leader → (leader.kind == 0) ≡ true → state_of h leader.host ≡ None)
    → (m : ℕ) (s : PeerState) → state_of h m ≡ Some s → (if names m (HostNote.In bits (received_in bits h)) then note_for (HostNote.In bits (received_in bits h)) s else s) ≡ s
unread bits h (Err short) e f m s there = ap (λ (r : Result Leader Short). if is_this_number m (peer_of_leader r) then bits_for r bits s else s) e
unread bits h (Ok leader) e f m s there = ap (λ (r : Result Leader Short). if is_this_number m (peer_of_leader r) then bits_for r bits s else s) e ∙ by (leader.kind == 0) refl (leader.host == m) refl
  where
    by : (z : Bool) → (leader.kind == 0) ≡ z → (b : Bool) → (leader.host == m) ≡ b → (if is_this_number m (if z then Some leader.host else None) then message_after leader.link bits (message_in bits) s else s) ≡ s
    by false z b e = refl
    by true z true e =
        let nay : None ≡ Some s = sym (f leader refl z) ∙ ap (state_of h) (eqb-true leader.host m e) ∙ there in
        absurd (cc nay)
    by true z false e = ap (λ (b : Bool). if b then message_after leader.link bits (message_in bits) s else s) e

-- two peers are not the same
pub not_both : (me n m : ℕ) → (n == m) ≡ false → (me == me && n == m) ≡ false
not_both me n m e = ap (λ (b : Bool). me == me && b) e ∙ by (me == me)
  where
    by : (b : Bool) → (b && false) ≡ false
    by true = refl
    by false = refl

-- a regular message of another host
coming_talks : (ns : List ℕ) (me : ℕ) (h : Host) (monitor : Monitor) (bits : List Bool) (leader : Leader) → Holds ns h → me < 256 → IsHostSaid (HostNote.In bits (received_in bits h)) h → leader_in bits ≡ Ok leader → (leader.host == me) ≡ false → (leader.kind == 0) ≡ true
    → Follows me h monitor → AllReady h → AllSeen me h monitor → AllSpoken me h monitor
    → AllSpoken me (after_note (HostNote.In bits (received_in bits h)) h) (after_said (after_in (sees monitor me) me leader.host leader.link) me leader.host (turn_at (after_in (sees monitor me) me leader.host leader.link) me leader.host leader.host false) true (message_in bits))
coming_talks ns me h monitor bits leader k l p led away zero follows ready seen all = record { tidy = tidy; carries = carries; spoken = spoken }
  where
    n : ℕ
    n = leader.host

    A : Monitor
    A = after_in (sees monitor me) me n leader.link

    now : Monitor
    now = after_said A me n (turn_at A me n n false) true (message_in bits)

    note : HostNote
    note = HostNote.In bits (received_in bits h)

    views : A.views ≡ monitor.views
    views = go (judges_coming (sees monitor me) me n)
      where
        go : (b : Bool) → (if b then record (sees monitor me) { kept = with_coming monitor.kept (position_of n me leader.link monitor.kept) } else sees monitor me).views ≡ monitor.views
        go true = refl
        go false = refl

    room : A.full ≡ monitor.full
    room = go (judges_coming (sees monitor me) me n)
      where
        go : (b : Bool) → (if b then record (sees monitor me) { kept = with_coming monitor.kept (position_of n me leader.link monitor.kept) } else sees monitor me).full ≡ monitor.full
        go true = refl
        go false = refl

    conn_tables : A.conn_tables ≡ next_number monitor.conn_tables
    conn_tables = in_tables (sees monitor me) me n leader.link

    reads : Reads A.conn_tables now.conn_tables
    reads = said_reads A me n n false true (message_in bits)

    open_before : now.full ≡ false → monitor.full ≡ false
    open_before full = sym room ∙ sym (said_keeps A me n (turn_at A me n n false) true (message_in bits)).1 ∙ full

    roomy_before : now.conn_tables.full ≡ false → monitor.conn_tables.full ≡ false
    roomy_before f = ap (λ (x : SeenTables). x.full) (sym conn_tables) ∙ reads.room f

    tidy : now.conn_tables.full ≡ false → Tidy now.conn_tables
    tidy f = reads.tidy f (subst Tidy (sym conn_tables) (all.tidy (roomy_before f)))

    become : (m : ℕ) (s t : PeerState) → t ≡ (if names m note then note_for note s else s) → t ≡ (if n == m then message_after leader.link bits (message_in bits) s else s)
    become m s t e =
        e ∙ ap (λ (r : Result Leader Short). if is_this_number m (peer_of_leader r) then bits_for r bits s else s) led
        ∙ ap (λ (z : Bool). if is_this_number m (if z then Some n else None) then message_after leader.link bits (message_in bits) s else s) zero

    carries : now.full ≡ false → (m : ℕ) (t : PeerState) → state_of (after_note note h) m ≡ Some t → Carries t.peer t.slots
    carries full m t e =
        let w = was ns note h m t k p e in
        subst (λ (x : PeerState). Carries x.peer x.slots) (sym (become m w.0 t w.2)) (by w.0 w.1 (n == m))
      where
        by : (s : PeerState) → state_of h m ≡ Some s → (b : Bool) → Carries (if b then message_after leader.link bits (message_in bits) s else s).peer (if b then message_after leader.link bits (message_in bits) s else s).slots
        by s there true =
            let c = all.carries (open_before full) m s there in
            let o = seen.each (open_before full) m s there in
            message_carries leader.link bits (message_in bits) s (ready m s there).fine.good.sound o.used (message_sound leader.link bits s (sound_of s (is_quiet s.slots) (view_in monitor.views me m) c o.stands)).ends c
        by s there false = all.carries (open_before full) m s there

    spoken : now.full ≡ false → now.conn_tables.full ≡ false → (m : ℕ) (t : PeerState) → state_of (after_note note h) m ≡ Some t → Spoken me m t.peer (view_in now.views me m) now.conn_tables
    spoken full f m t e = go (was ns note h m t k p e)
      where
        go : (s : PeerState) × (state_of h m ≡ Some s) × (t ≡ (if names m note then note_for note s else s)) → Spoken me m t.peer (view_in now.views me m) now.conn_tables
        go w = by (eqb_tells n m)
          where
            s : PeerState
            s = w.0

            counterpart : Spoken me m s.peer (view_in monitor.views me m) monitor.conn_tables
            counterpart = all.spoken (open_before full) (roomy_before f) m s w.1

            here : n ≡ m → (n == m) ≡ true → Spoken me m t.peer (view_in now.views me m) now.conn_tables
            here same eq =
                subst (λ (x : PeerState). Spoken me m x.peer (view_in now.views me m) now.conn_tables) (sym (become m s t w.2 ∙ ap (λ (b : Bool). if b then message_after leader.link bits (message_in bits) s else s) eq))
                (subst (λ (j : ℕ). Spoken me j (message_after leader.link bits (message_in bits) s).peer (view_in now.views me j) now.conn_tables) same (said (message_in bits) refl))
              where
                there : state_of h n ≡ Some s
                there = ap (state_of h) same ∙ w.1

                small : n < 256
                small = (k.good n s there).0

                o : Seen s (view_in monitor.views me n)
                o = seen.each (open_before full) n s there

                v : View
                v = view_in A.views me n

                is_view : v ≡ view_in monitor.views me n
                is_view = ap (λ (x : List View). view_in x me n) views

                at_n : Stands s.peer (is_quiet s.slots) v
                at_n = subst (λ (x : View). Stands s.peer (is_quiet s.slots) x) (sym is_view) o.stands

                of_n : Stands s.peer (is_quiet s.slots) (view_of A me n)
                of_n = stands_as s.peer (is_quiet s.slots) v v.suspended v.overlapped (v.told && not A.full) refl (not_full v.told A.full at_n.phased.told (room ∙ open_before full)) at_n

                shown : (l : ℕ) → Shows (filter (is_of me n l) A.kept) (slot_at s.slots l)
                shown = (coming_keeps me h (sees monitor me) n leader.link away follows (room ∙ open_before full)).agrees n s there

                busy : Sees (is_quiet s.slots) (busy_link me n A.kept)
                busy = sees_busy me n A.kept s shown o.used

                held : Carries s.peer s.slots
                held = all.carries (open_before full) n s there

                spoken_v : A.conn_tables.full ≡ false → Spoken me n s.peer v A.conn_tables
                spoken_v g =
                    subst (λ (x : View). Spoken me n s.peer x A.conn_tables) (sym is_view)
                    (subst (λ (x : SeenTables). Spoken me n s.peer (view_in monitor.views me n) x) (sym conn_tables) (numbered_spoken me n s.peer (view_in monitor.views me n) monitor.conn_tables (all.spoken (open_before full) (ap (λ (x : SeenTables). x.full) (sym conn_tables) ∙ g) n s there)))

                known : Known me n s.peer (view_of A me n) A.conn_tables
                known g = (spoken_as me n s.peer v (view_of A me n) A.conn_tables (λ r. r) refl refl (spoken_v g), subst Tidy (sym conn_tables) (all.tidy (ap (λ (x : SeenTables). x.full) (sym conn_tables) ∙ g)))

                said : (r : Result Message MessageFault) → message_in bits ≡ r → Spoken me n (message_after leader.link bits (message_in bits) s).peer (view_in now.views me n) now.conn_tables
                said (Err fault) g =
                    subst (λ (r : Result Message MessageFault). Spoken me n (message_after leader.link bits r s).peer (view_in (after_said A me n (turn_at A me n n false) true r).views me n) (after_said A me n (turn_at A me n n false) true r).conn_tables) (sym g)
                    (spoken_v (ap (λ (r : Result Message MessageFault). (after_said A me n (turn_at A me n n false) true r).conn_tables.full) (sym g) ∙ f))
                said (Ok x) g =
                    subst (λ (r : Result Message MessageFault). Spoken me n (message_after leader.link bits r s).peer (view_in (after_said A me n (turn_at A me n n false) true r).views me n) (after_said A me n (turn_at A me n n false) true r).conn_tables) (sym g)
                    read_on
                  where
                    is_leader : x.leader ≡ leader
                    is_leader = let ok : ◌≡◌ {A = Result Leader Short} (Ok x.leader) (Ok leader) = sym (message_leader bits x g) ∙ led in cc ok

                    link : x.leader.link ≡ leader.link
                    link = ap (λ (l : Leader). l.link) is_leader

                    after : View
                    after = after_read (message_class x) (record { by = n; sent = false; busy = busy_link me n A.kept; zero = knows_zero A me n }) x.text (view_of A me n)

                    here_room : (after_said A me n (turn_at A me n n false) true (Ok x)).conn_tables.full ≡ false
                    here_room = ap (λ (r : Result Message MessageFault). (after_said A me n (turn_at A me n n false) true r).conn_tables.full) (sym g) ∙ f

                    read_on : Spoken me n (message_after leader.link bits (Ok x) s).peer (view_in (after_said A me n (turn_at A me n n false) true (Ok x)).views me n) (after_said A me n (turn_at A me n n false) true (Ok x)).conn_tables
                    read_on =
                        subst (λ (u : View). Spoken me n (message_after leader.link bits (Ok x) s).peer u (after_said A me n (turn_at A me n n false) true (Ok x)).conn_tables) (sym (view_same A.views me n after (ap length views ∙ seen.long) l small))
                        (subst (λ (j : ℕ). Spoken me n (message_after j bits (Ok x) s).peer after (after_said A me n (turn_at A me n n false) true (Ok x)).conn_tables) link
                        (message_heard me n (busy_link me n A.kept) (knows_zero A me n) A.kept bits x s (view_of A me n) A.conn_tables g (ap (λ (l : Leader). l.host) is_leader) (ap (λ (l : Leader). l.kind) is_leader ∙ eqb-true leader.kind 0 zero)
                        busy (quiet_reports s.slots o.used) (shows_busy me n A.kept s.slots shown) of_n (ready n s there).fine.good (borne_of s held) (sound_of s (is_quiet s.slots) (view_in monitor.views me n) held o.stands) known here_room))

            elsewhere : n ≢ m → (n == m) ≡ false → Spoken me m t.peer (view_in now.views me m) now.conn_tables
            elsewhere d eq =
                subst (λ (x : PeerState). Spoken me m x.peer (view_in now.views me m) now.conn_tables) (sym (become m s t w.2 ∙ ap (λ (b : Bool). if b then message_after leader.link bits (message_in bits) s else s) eq))
                (subst (λ (u : View). Spoken me m s.peer u now.conn_tables) (sym (said_other A me n m n false true (message_in bits) (λ e. d (sym e)) ∙ ap (λ (x : List View). view_in x me m) views))
                (spoken_alike me m s.peer (view_in monitor.views me m) A.conn_tables now.conn_tables (said_alikes A me n n false true (message_in bits) me m (not_both me n m eq))
                (subst (λ (x : SeenTables). Spoken me m s.peer (view_in monitor.views me m) x) (sym conn_tables) (numbered_spoken me m s.peer (view_in monitor.views me m) monitor.conn_tables counterpart))))

            by : (((n == m) ≡ true) × (n ≡ m)) ⊎ (((n == m) ≡ false) × (n ≢ m)) → Spoken me m t.peer (view_in now.views me m) now.conn_tables
            by (inl same) = here same.1 same.0
            by (inr other) = elsewhere other.1 other.0

-- an answer of a peer
answer_talks : (ns : List ℕ) (me : ℕ) (h : Host) (monitor u : Monitor) (bits : List Bool) (leader : Leader) (note : HostNote) → Holds ns h → IsHostSaid note h → note ≡ HostNote.Answered leader.host leader.link (answer_of leader.kind) (received_in bits h)
    → u.views ≡ monitor.views → u.full ≡ monitor.full → u.conn_tables ≡ next_number monitor.conn_tables → AllReady h → AllSeen me h monitor → AllSpoken me h monitor → AllSpoken me (after_note note h) u
answer_talks ns me h monitor u bits leader note k p is v f b ready seen all = record {
  tidy = λ room. subst Tidy (sym b) (all.tidy (ap (λ (x : SeenTables). x.full) (sym b) ∙ room));
  carries = λ full n t e. let w = was ns note h n t k p e in subst (λ (x : PeerState). Carries x.peer x.slots) (sym (become n w.0 t w.2)) (held (sym f ∙ full) n w.0 w.1 (leader.host == n));
  spoken = λ full room n t e.
      let w = was ns note h n t k p e in
      subst (λ (x : PeerState). Spoken me n x.peer (view_in u.views me n) u.conn_tables) (sym (become n w.0 t w.2))
      (subst (λ (x : List View). Spoken me n (now w.0 (leader.host == n)).peer (view_in x me n) u.conn_tables) (sym v)
      (subst (λ (x : SeenTables). Spoken me n (now w.0 (leader.host == n)).peer (view_in monitor.views me n) x) (sym b)
      (numbered_spoken me n (now w.0 (leader.host == n)).peer (view_in monitor.views me n) monitor.conn_tables (said (sym f ∙ full) (ap (λ (x : SeenTables). x.full) (sym b) ∙ room) n w.0 w.1 (leader.host == n)))));
}
  where
    now : PeerState → Bool → PeerState
    now s x = if x then answer_comes leader.link (answer_of leader.kind) s else s

    become : (n : ℕ) (s t : PeerState) → t ≡ (if names n note then note_for note s else s) → t ≡ now s (leader.host == n)
    become n s t e = e ∙ ap (λ (x : HostNote). if names n x then note_for x s else s) is

    held : monitor.full ≡ false → (n : ℕ) (s : PeerState) → state_of h n ≡ Some s → (x : Bool) → Carries (now s x).peer (now s x).slots
    held full n s there true =
        let c = all.carries full n s there in
        let o = seen.each full n s there in
        answer_carries leader.link (answer_of leader.kind) s (ready n s there).fine.good.sound o.used (answer_sound leader.link (answer_of leader.kind) s (sound_of s (is_quiet s.slots) (view_in monitor.views me n) c o.stands)).ends c
    held full n s there false = all.carries full n s there

    said : monitor.full ≡ false → monitor.conn_tables.full ≡ false → (n : ℕ) (s : PeerState) → state_of h n ≡ Some s → (x : Bool) → Spoken me n (now s x).peer (view_in monitor.views me n) monitor.conn_tables
    said full room n s there true =
        let o = seen.each full n s there in
        answer_spoken me n leader.link (answer_of leader.kind) s (view_in monitor.views me n) monitor.conn_tables (ready n s there).fine.good (all.carries full n s there).sexes (record { none = o.stands.down; calm = o.stands.phased.calm }) (all.spoken full room n s there)
    said full room n s there false = all.spoken full room n s there

pub in_talks : (ns : List ℕ) (me : ℕ) (h : Host) (monitor : Monitor) (bits : List Bool) (note : HostNote) → Holds ns h → is_one_of me ns ≡ false → me < 256 → IsHostSaid note h → note ≡ note_of_bits bits h
    → Follows me h monitor → AllReady h → AllSeen me h monitor → AllSpoken me h monitor → AllSpoken me (after_note note h) (after_record monitor FromImp me bits)
in_talks ns me h monitor bits note k away small p is follows ready seen all = go (leader_in bits) refl
  where
    v : Monitor
    v = sees monitor me

    now : Host
    now = after_note note h

    counterpart : (after : Monitor) → after_record monitor FromImp me bits ≡ after → AllSpoken me now after → AllSpoken me now (after_record monitor FromImp me bits)
    counterpart after e g = subst (λ (u : Monitor). AllSpoken me now u) (sym e) g

    plain : (u : Monitor) → u.views ≡ monitor.views → u.full ≡ monitor.full → u.conn_tables ≡ next_number monitor.conn_tables → note ≡ HostNote.In bits (received_in bits h) → (r : Result Leader Short) → leader_in bits ≡ r
        → ((leader : Leader) → r ≡ Ok leader → (leader.kind == 0) ≡ true → state_of h leader.host ≡ None) → AllSpoken me now u
    plain u a b c e r led none =
        subst (λ (x : HostNote). AllSpoken me (after_note x h) u) (sym e)
        (calm_talks ns me (HostNote.In bits (received_in bits h)) h monitor u k (subst (λ (x : HostNote). IsHostSaid x h) e p) a b c (unread bits h r led none) all)

    not_regular : (leader : Leader) → (leader.kind == 0) ≡ false → (other : Leader) → ◌≡◌ {A = Result Leader Short} (Ok leader) (Ok other) → (other.kind == 0) ≡ true → state_of h other.host ≡ None
    not_regular leader z other e y =
        let same : leader ≡ other = cc e in
        let nay : false ≡ true = sym z ∙ ap (λ (x : Leader). x.kind == 0) same ∙ y in
        absurd (cc nay)

    answer_views : (kind n on : ℕ) → (monitor_after_answer v kind me n on).views ≡ monitor.views
    answer_views kind n on = by monitor.full
      where
        by : (b : Bool) → (if b then v else record v { kept = with_answer (view_in monitor.views me n).known kind monitor.kept (position_of me n on monitor.kept) }).views ≡ monitor.views
        by true = refl
        by false = refl

    answer_room : (kind n on : ℕ) → (monitor_after_answer v kind me n on).full ≡ monitor.full
    answer_room kind n on = by monitor.full
      where
        by : (b : Bool) → (if b then v else record v { kept = with_answer (view_in monitor.views me n).known kind monitor.kept (position_of me n on monitor.kept) }).full ≡ monitor.full
        by true = refl
        by false = refl

    -- the host itself is no peer
    no_peer : (leader : Leader) → (leader.host == me) ≡ true → state_of h leader.host ≡ None
    no_peer leader own = by (state_of h leader.host) refl
      where
        by : (o : Option PeerState) → state_of h leader.host ≡ o → state_of h leader.host ≡ None
        by None e = e
        by (Some s) e =
            let here : is_one_of leader.host ns ≡ true = ap (is_one_of leader.host) (sym k.numbers) ∙ peer_there h.peers leader.host s e in
            let nay : true ≡ false = sym own ∙ apart me leader.host ns away here in
            absurd (cc nay)

    by : (leader : Leader) → leader_in bits ≡ Ok leader → (b : Bool) → (leader.host == me) ≡ b → (z : Bool) → (leader.kind == 0) ≡ z → (x : Bool) → is_answer leader.kind ≡ x → (o : Option PeerState) → state_of h leader.host ≡ o
        → note ≡ note_as (if x then if_peer o leader else None) bits (received_in bits h)
        → AllSpoken me now (after_record monitor FromImp me bits)
    by leader led b own true zero true answer o there e = let nay : true ≡ false = sym zero ∙ no_regular leader.kind answer in absurd (cc nay)
    by leader led b own false zero false answer o there e = counterpart v (other_is monitor me bits leader b led own zero answer) (plain v refl refl refl e (Ok leader) led (not_regular leader zero))
    by leader led true own true zero false answer o there e =
        counterpart v (own_is monitor me bits leader true false led own zero answer)
        (plain v refl refl refl e (Ok leader) led (λ other q y. let same : leader ≡ other = cc q in ap (λ (x : Leader). state_of h x.host) (sym same) ∙ no_peer leader own))
    by leader led false own true zero false answer o there e =
        subst (λ (u : Monitor). AllSpoken me now u) (sym (in_is monitor me bits leader false led own zero answer))
        (subst (λ (x : HostNote). AllSpoken me (after_note x h) (after_said (after_in v me leader.host leader.link) me leader.host (turn_at (after_in v me leader.host leader.link) me leader.host leader.host false) true (message_in bits))) (sym e)
        (coming_talks ns me h monitor bits leader k small (subst (λ (x : HostNote). IsHostSaid x h) e p) led own zero follows ready seen all))
    by leader led true own false zero true answer None there e = counterpart v (own_is monitor me bits leader false true led own zero answer) (plain v refl refl refl e (Ok leader) led (not_regular leader zero))
    by leader led false own false zero true answer None there e =
        let after = monitor_after_answer v leader.kind me leader.host leader.link in
        counterpart after (answer_is monitor me bits leader led own zero answer)
        (plain after (answer_views leader.kind leader.host leader.link) (answer_room leader.kind leader.host leader.link) (answer_tables v leader.kind me leader.host leader.link) e (Ok leader) led (not_regular leader zero))
    by leader led true own false zero true answer (Some s) there e = let nay : None ≡ Some s = sym (no_peer leader own) ∙ there in absurd (cc nay)
    by leader led false own false zero true answer (Some s) there e =
        let after = monitor_after_answer v leader.kind me leader.host leader.link in
        counterpart after (answer_is monitor me bits leader led own zero answer)
        (answer_talks ns me h monitor after bits leader note k p e (answer_views leader.kind leader.host leader.link) (answer_room leader.kind leader.host leader.link) (answer_tables v leader.kind me leader.host leader.link) ready seen all)

    go : (r : Result Leader Short) → leader_in bits ≡ r → AllSpoken me now (after_record monitor FromImp me bits)
    go (Err short) e = counterpart v (short_is monitor me bits short e) (plain v refl refl refl (is ∙ ap (λ (r : Result Leader Short). note_as (answer_with r h) bits (received_in bits h)) e) (Err short) e (λ leader q. absurd (cc q)))
    go (Ok leader) e =
        by leader e (leader.host == me) refl (leader.kind == 0) refl (is_answer leader.kind) refl (state_of h leader.host) refl
        (is ∙ ap (λ (r : Result Leader Short). note_as (answer_with r h) bits (received_in bits h)) e)
