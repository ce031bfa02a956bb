-- Each event of two hosts with the subnet between them preserves the facts about both, and about the
-- follower of their file: the texts reported at each interface match the histories of the ends there.
use Rattle.std.proofs.Common.{◌≡◌, ℕ, ◌==◌, Bool, true, false, if◌then◌else◌, List, [], ◌∷◌, ◌++◌, length, Option, None, Some, Ok, refl, sym, ap, ◌∙◌, subst}
use Rattle.std.specs.FinMap.{get}
use Rattle.ncp_leader.specs.declared.leader.Leader.{Leader}
use Rattle.ncp_leader.specs.Leader.{leader_in}
use Rattle.ncp_leader.specs.Message.{message_in}
use Rattle.ncp_subnet.specs.Messages.{arriving, answering, answer_about}
use Rattle.ncp_subnet.specs.Transit.{is_accepted, answer_kind}
use Rattle.ncp_subnet.specs.Ways.{OnLink}
use Rattle.ncp_model.specs.declared.pair.Pair.{Pair}
use Rattle.ncp_model.specs.Phase.{up}
use Rattle.ncp_model.specs.Peers.{Take}
use Rattle.ncp_slot.specs.Slots.{is_quiet}
use Rattle.ncp_proof_monitor.proofs.Phased.{none_queued}
use Rattle.ncp_proof_endpoint.specs.Sound.{SoundAt}
use Rattle.ncp_proof_machine.specs.Hosts.{Pasts, past_of}
use Rattle.ncp_proof_machine.specs.Resets.{This, That}
use Rattle.ncp_peer.specs.PeerState.{PeerState, answer_comes}
use Rattle.ncp_peer.specs.Hearing.{answer_of}
use Rattle.ncp_peer.specs.Output.{leader_to, next_of}
use Rattle.ncp_host.specs.Turns.{next_output}
use Rattle.ncp_transcript.specs.declared.call.Call.{Call}
use Rattle.ncp_transcript.specs.declared.note.HostNote.{HostNote}
use Rattle.ncp_transcript.specs.After.{after_note}
use Rattle.ncp_transcript.specs.Noting.{note_of_message, note_of_bits}
use Rattle.ncp_transcript_two.specs.Subnet.{Free, Accepted, Delivered, Lost, Dead, from_host, answer_bits}
use Rattle.ncp_transcript.specs.Asked.{Asked, Asks, Replied, Took, asked_in}
use Rattle.ncp_transcript_two.specs.World.{World, WorldStep, Call_is_made, Goes_out, Is_delivered, Is_lost, Finds_dead, Is_answered, NoteBody, Called, swap, goes, delivers, loses, dies, answers_for, moves}
use Rattle.ncp_transcript_two.specs.Watch.{Both, turn, histories_after_body, pasts_after_message}
use Rattle.ncp_transcript_two.specs.declared.side.Side.TheVariants.{A, B}
use Rattle.ncp_transcript_two.specs.declared.event.Event.{Event}
use Rattle.ncp_transcript_two.specs.declared.note.Move.{Move}
use Rattle.ncp_transcript_two.specs.declared.note.Note.{Note}
use Rattle.ncp_transcript_two.specs.Between.{Hosts, transit_of, hosts_after_note}
use Rattle.ncp_transcript_two.specs.Happening.{Noted, IsCalled, note_of_coming, note_of_answering, note_of_out, note_of_delivery, note_of_loss, note_of_death, note_of_answer}
use Rattle.ncp_transcript_two.specs.Seen.{had_for, seen, done, call_body, body_in, answer_body, watched}
use Rattle.ncp_transcript_two.proofs.OnePeer.{had-changed, noted-message, noted-answer}
use Rattle.ncp_transcript_two.proofs.SeenRuns.{counterpart, DoesOn, event-does}
use Rattle.ncp_transcript_two.proofs.Written.{answer_leader}
use Rattle.ncp_monitor.specs.Tables.{view_in}
use Rattle.ncp_monitor.specs.declared.finding.Finding.{Finding}
use Rattle.ncp_monitor.specs.declared.monitor.Monitor.{Monitor}
use Rattle.ncp_interface.specs.declared.imp_direction.ImpDirection.{ImpDirection}
use Rattle.ncp_interface.specs.declared.imp_direction.ImpDirection.TheVariants.{ToImp, FromImp}
use Rattle.ncp_monitor.specs.ConnStates.{SeenTables}
use Rattle.ncp_monitor.specs.Judged.{record_findings, after_record}
use Rattle.ncp_monitor.proofs.Passing.{Pass}
use Rattle.ncp_follow.specs.declared.follower.Follower.{Follower}
use Rattle.ncp_follow.specs.declared.tables.Tables.{Tables}
use Rattle.ncp_follow.specs.Tables.{has_room_opened}
use Rattle.ncp_follow.specs.Followed.{follower_after_record}
use Rattle.ncp_follow.proofs.Records.{record_answers}
use Rattle.ncp_interface.specs.Events.{is_answer}
use Rattle.ncp_proof_monitor.specs.Worlds.{comes_to, passes_between}
use Rattle.ncp_proof_monitor_host.proofs.Spoken.{Tells}
use Rattle.ncp_proof_monitor_messages.proofs.Between.{Written, written, comes_led, AnswerLed, answer_leads}
use Rattle.ncp_proof_monitor_messages.proofs.Both
use Rattle.ncp_proof_monitor_messages.proofs.Coming.{came_to}
use Rattle.ncp_proof_monitor_messages.proofs.Walk.{after_file, Steps}
use Rattle.ncp_proof_monitor_messages.specs.Files.{findings_in}
use Rattle.ncp_proof_monitor_network.proofs.SessionInvariants.{Known, turn_known}
use Rattle.ncp_proof_monitor_network.proofs.WholeWalk.{never}
use Rattle.ncp_proof_follow_tables.specs.FileFollowed.{followed_from}
use Rattle.ncp_proof_follow_tables.proofs.OpensSo.{AllOpened}
use Rattle.ncp_proof_follow_tables.proofs.Placed.{Placed}
use Rattle.ncp_proof_follow.proofs.Telling.{Got, Given}
use Rattle.ncp_proof_follow.proofs.HostLives.{opened_lives}
use Rattle.ncp_proof_follow.proofs.ControlComes.{AtHost, still_opened}
use Rattle.ncp_proof_follow.proofs.CallsOpened.{called_opened}
use Rattle.ncp_proof_follow.proofs.CameOpened.{IsCovered}
use Rattle.ncp_proof_follow.proofs.GoesTold.{goes_opened}
use Rattle.ncp_proof_follow.proofs.ComesTold.{comes_opened}
use Rattle.ncp_proof_follow_tables.proofs.Elsewhere.{Away, record_away}
use Rattle.ncp_proof_follow_tables.proofs.FilesKept.{FileKeeps, fewer_opened, file_keeps}
use Rattle.ncp_proof_follow.proofs.BothFollowed.{Beside, turn_beside, each_beside}
use Rattle.ncp_proof_follow.proofs.OpenedWalk.{histories_then, EachEvent, OpenedAt}

-- the texts reported at another interface
at_away : (at me n : ℕ) (s : PeerState) (pasts : Pasts) (t now : Tables) → (me == at) ≡ false → Away at t now → AtHost me n s pasts t → AtHost me n s pasts now
at_away at me n s pasts t now d a k = record {
  got = λ q r. subst (Got (get s.peer.ends q) (past_of pasts q)) (sym (a.texts (record { at = me; peer = n; pair = q }) d)) (k.got q r);
  given = λ q r. subst (Given (get s.peer.ends q) (past_of pasts q)) (sym (a.texts (record { at = me; peer = n; pair = q }) d)) (k.given q r);
}

none_found : (found : List Finding) → Pass never (found ++ []) → found ≡ []
none_found [] p = refl
none_found (x ∷ found) p = absurd (cc p)

-- an answer changes no table
tables_answered : (number at : ℕ) (leader : Leader) (bits : List Bool) (f : Follower) → leader_in bits ≡ Ok leader → (leader.host == at) ≡ false → (leader.kind == 0) ≡ false → is_answer leader.kind ≡ true
    → (follower_after_record number false at bits f).tables ≡ f.tables
tables_answered number at leader bits f led d z a = ap (λ (x : Follower). x.tables) (record_answers number at bits leader f led d z a)

-- ---- what the rules note

abbrev is_called : NoteBody → Bool
is_called (Called asked reply) = true
is_called other = false

done_called : (o : Option (ℕ × Asked)) (t : NoteBody) → done o ≡ Some t → is_called t ≡ true
done_called None t e = absurd (cc e)
done_called (Some (peer, asked)) t e = let is : Called asked (Replied (Ok tt)) ≡ t = cc e in ap is_called (sym is)

opened_called : (h : HostNote) (t : NoteBody) → call_body h ≡ Some t → is_called t ≡ true
opened_called (HostNote.Done call) t e = done_called (asked_in call) t e
opened_called (HostNote.Took peer pair bytes text) t e = let is : Called (Asks pair (Take bytes)) (Took (Ok text)) ≡ t = cc e in ap is_called (sym is)
opened_called other t e = absurd (cc e)

-- only a call is reported as one

goes_uncalled : (o : Option (ℕ × List Bool)) (v : World) → is_called (goes o v).1 ≡ false
goes_uncalled None v = refl
goes_uncalled (Some out) v = refl

delivers_uncalled : (on : ℕ) (h : OnLink) (v : World) → is_called (delivers on h v).1 ≡ false
delivers_uncalled on Free v = refl
delivers_uncalled on (Accepted m) v = refl
delivers_uncalled on Delivered v = refl
delivers_uncalled on Lost v = refl
delivers_uncalled on Dead v = refl

loses_uncalled : (on : ℕ) (h : OnLink) (v : World) → is_called (loses on h v).1 ≡ false
loses_uncalled on Free v = refl
loses_uncalled on (Accepted m) v = refl
loses_uncalled on Delivered v = refl
loses_uncalled on Lost v = refl
loses_uncalled on Dead v = refl

dies_uncalled : (on : ℕ) (h : OnLink) (v : World) → is_called (dies on h v).1 ≡ false
dies_uncalled on Free v = refl
dies_uncalled on (Accepted m) v = refl
dies_uncalled on Delivered v = refl
dies_uncalled on Lost v = refl
dies_uncalled on Dead v = refl

answers_uncalled : (on : ℕ) (h : OnLink) (v : World) → is_called (answers_for on h v).1 ≡ false
answers_uncalled on Free v = refl
answers_uncalled on (Accepted m) v = refl
answers_uncalled on Delivered v = refl
answers_uncalled on Lost v = refl
answers_uncalled on Dead v = refl

-- what comes to a host and is not a message of its peer changes no history
answered_histories : (link : ℕ) (h : HostNote) (v : World) (p : Both) → watched This (answer_body link h) v p ≡ p
answered_histories link (HostNote.Refused call fault) v p = refl
answered_histories link note v p = refl

-- of the other side
watched_turned : (o : Option NoteBody) (v : World) (p : Both) → turn (watched This o (swap v) (turn p)) ≡ watched That o v p
watched_turned None v p = refl
watched_turned (Some t) v p = refl

-- ---- what is known of both hosts, of what is judged and of what is followed; of what it is enough to know that each event keeps it

module _ (SentMessage : Hosts → Monitor → Type 0) (known_of : (w : Hosts) (u : Monitor) → SentMessage w u → Known w u) (unfull_of : (w : Hosts) (u : Monitor) → SentMessage w u → u.full ≡ false) (room_of : (w : Hosts) (u : Monitor) → SentMessage w u → u.conn_tables.full ≡ false)
    (turn_kept : (w : Hosts) (u : Monitor) → SentMessage w u → SentMessage (counterpart w) u) (each_kept : Steps never SentMessage)
    (Cover : SeenTables → Tables → Type 0) (is_covered : (b : SeenTables) (t : Tables) → Cover b t → IsCovered b t)
    (each_cover : (event : Event) (note : Note) (w : Hosts) (u : Monitor) → Noted event note w → Known w u → u.full ≡ false → u.conn_tables.full ≡ false
    → (after_file u (passes_between event note w)).full ≡ false → (after_file u (passes_between event note w)).conn_tables.full ≡ false → (number : ℕ) (f : Follower) → Beside w.number_a w.number_b u f → Cover u.conn_tables f.tables
    → Cover (after_file u (passes_between event note w)).conn_tables (followed_from number (passes_between event note w) f).tables) where
  pub record Holds (w : Hosts) (p : Both) (u : Monitor) (f : Follower) : Type 0 where
    pub kept : SentMessage w u
    pub beside : Beside w.number_a w.number_b u f
    pub covered : Cover u.conn_tables f.tables
    pub placed : Placed f.tables
    pub opened : has_room_opened f.tables.told ≡ true → AllOpened f.tables.tracks
    pub here : has_room_opened f.tables.told ≡ true → AtHost w.number_a w.number_b (had_for w.number_b w.a) p.this f.tables
    pub there : has_room_opened f.tables.told ≡ true → AtHost w.number_b w.number_a (had_for w.number_a w.b) p.that f.tables

  turn_holds : (w : Hosts) (p : Both) (u : Monitor) (f : Follower) → Holds w p u f → Holds (counterpart w) (turn p) u f
  turn_holds w p u f h = record {
    kept = turn_kept w u h.kept;
    beside = turn_beside w.number_a w.number_b u f h.beside;
    covered = h.covered;
    placed = h.placed;
    opened = h.opened;
    here = h.there;
    there = h.here;
  }

  module _ (w : Hosts) (p : Both) (u : Monitor) (number : ℕ) (f : Follower) (h : Holds w p u f) where
    abbrev Keeps : Event → Note → Type 0
    Keeps event note = Holds (hosts_after_note note w) (histories_then note w p) (after_file u (passes_between event note w)) (followed_from number (passes_between event note w) f)

    abbrev a : ℕ
    a = w.number_a

    abbrev b : ℕ
    b = w.number_b

    abbrev st : PeerState
    st = had_for w.number_b w.a

    abbrev far : PeerState
    far = had_for w.number_a w.b

    known : Known w u
    known = known_of w u h.kept

    unfull : u.full ≡ false
    unfull = unfull_of w u h.kept

    room : u.conn_tables.full ≡ false
    room = room_of w u h.kept

    b_a : (w.number_b == w.number_a) ≡ false
    b_a = Both.b_a w u known.0

    a_b : (w.number_a == w.number_b) ≡ false
    a_b = Both.a_b w u known.0

    sound : (q : Pair) → SoundAt q (get st.peer.ends q)
    sound = (Both.is_ready w u known.0).fine.good.sound

    -- with the texts reported for each host
    module _ (event : Event) (note : Note) (n : Noted event note w) where
      abbrev file : List (ℕ × ImpDirection × List Bool)
      file = passes_between event note w

      abbrev u_now : Monitor
      u_now = after_file u file

      abbrev f_now : Follower
      f_now = followed_from number file f

      next_kept : SentMessage (hosts_after_note note w) u_now
      next_kept = (each_kept event note w u n h.kept).1

      unfull_now : u_now.full ≡ false
      unfull_now = unfull_of (hosts_after_note note w) u_now next_kept

      room_now : u_now.conn_tables.full ≡ false
      room_now = room_of (hosts_after_note note w) u_now next_kept

      keeps : FileKeeps f.tables f_now.tables
      keeps = file_keeps number file f h.placed

      opened_before : has_room_opened f_now.tables.told ≡ true → has_room_opened f.tables.told ≡ true
      opened_before e = fewer_opened (length f.tables.told) (length f_now.tables.told) keeps.more e

      event_holds : (hosts_after_note note w).number_a ≡ w.number_a → (hosts_after_note note w).number_b ≡ w.number_b
          → (has_room_opened f_now.tables.told ≡ true → AtHost (hosts_after_note note w).number_a (hosts_after_note note w).number_b (had_for (hosts_after_note note w).number_b (hosts_after_note note w).a) (histories_then note w p).this f_now.tables)
          → (has_room_opened f_now.tables.told ≡ true → AtHost (hosts_after_note note w).number_b (hosts_after_note note w).number_a (had_for (hosts_after_note note w).number_a (hosts_after_note note w).b) (histories_then note w p).that f_now.tables)
          → Keeps event note
      event_holds one other here there = record {
        kept = next_kept;
        beside =
            subst (λ (x : ℕ). Beside x (hosts_after_note note w).number_b u_now f_now) (sym one)
            (subst (λ (x : ℕ). Beside w.number_a x u_now f_now) (sym other) (each_beside event note w u n known unfull room unfull_now room_now number f h.beside));
        covered = each_cover event note w u n known unfull room unfull_now room_now number f h.beside h.covered;
        placed = keeps.placed;
        opened = λ e. keeps.opened e (h.opened (opened_before e));
        here = here;
        there = there;
      }

    -- ---- a call

    call_here : (call : Call) (x : HostNote) → Noted (Event.Call A call) (Note.Called A x) w → AtHost a b st p.this f.tables → AtHost a b (had_for b (after_note x w.a)) (histories_then (Note.Called A x) w p).this f.tables
    call_here call x n at = go (call_body x) refl did
      where
        next : Hosts
        next = hosts_after_note (Note.Called A x) w

        did : DoesOn This (call_body x) (seen w) (seen next)
        did = event-does w known.0.joined.stand known.0.joined.model.0 known.0.joined.model.1 (Event.Call A call) (Note.Called A x) n

        tells : up st.peer.phase ≡ true → Tells a b st.peer.ends st.peer.echoes.awaited st.peer.phase.waiting u.conn_tables
        tells is_up = (known.1.talks_a.spoken unfull room b st (Both.there w u known.0)).tells (known.1.parley unfull room).awake_h.suspended (none_queued st.peer.phase (is_quiet st.slots) (view_in u.views a b) is_up (known.1.parley unfull room).awake_h.own_even (Both.own_seen w u known.0 unfull).stands.phased) is_up

        nay : (t : NoteBody) (s : NoteBody) → is_called t ≡ true → is_called s ≡ false → s ≡ t → ⊥
        nay t s c d e = let no : false ≡ true = sym d ∙ ap is_called e ∙ c in cc no

        by : (st' : WorldStep) (t : NoteBody) → moves st' (seen w) ≡ (seen next, t) → is_called t ≡ true → AtHost a b (seen next).this (histories_after_body t (seen w) p).this f.tables
        by (Call_is_made asked) t is c =
            subst (λ (d : World × NoteBody). AtHost a b d.0.this (histories_after_body d.1 (seen w) p).this f.tables) is
            (called_opened a b st p.this f.tables st.peer.echoes.awaited st.peer.phase.waiting u.conn_tables asked tells h.beside.this.same h.placed sound at)
        by Goes_out t is c = absurd (nay t (moves Goes_out (seen w)).1 c (goes_uncalled (next_of b st) (seen w)) (ap (λ (d : World × NoteBody). d.1) is))
        by (Is_delivered on) t is c = absurd (nay t (moves (Is_delivered on) (seen w)).1 c (delivers_uncalled on ((seen w).going on) (seen w)) (ap (λ (d : World × NoteBody). d.1) is))
        by (Is_lost on) t is c = absurd (nay t (moves (Is_lost on) (seen w)).1 c (loses_uncalled on ((seen w).going on) (seen w)) (ap (λ (d : World × NoteBody). d.1) is))
        by (Finds_dead on) t is c = absurd (nay t (moves (Finds_dead on) (seen w)).1 c (dies_uncalled on ((seen w).going on) (seen w)) (ap (λ (d : World × NoteBody). d.1) is))
        by (Is_answered on) t is c = absurd (nay t (moves (Is_answered on) (seen w)).1 c (answers_uncalled on ((seen w).going on) (seen w)) (ap (λ (d : World × NoteBody). d.1) is))

        go : (o : Option NoteBody) → call_body x ≡ o → DoesOn This o (seen w) (seen next) → AtHost a b (seen next).this (watched This o (seen w) p).this f.tables
        go None e d = subst (λ (y : World). AtHost a b y.this p.this f.tables) (sym d) at
        go (Some t) e (st', ok, is) = by st' t is (opened_called x t e)

    -- of the other nothing is noted
    call_there : (x : HostNote) → (histories_then (Note.Called A x) w p).that ≡ p.that
    call_there x = go (call_body x) refl
      where
        one : (t : NoteBody) → is_called t ≡ true → (histories_after_body t (seen w) p).that ≡ p.that
        one (Called asked reply) c = refl
        one told c = absurd (cc c)

        go : (o : Option NoteBody) → call_body x ≡ o → (watched This o (seen w) p).that ≡ p.that
        go None e = refl
        go (Some t) e = one t (opened_called x t e)

    call_a : (call : Call) (note : Note) → IsCalled A call note w → Keeps (Event.Call A call) note
    call_a call note n =
        subst (Keeps (Event.Call A call)) (sym n.said)
        (event_holds (Event.Call A call) (Note.Called A n.of_host) noted refl refl (λ e. call_here call n.of_host noted (h.here e))
        (λ e. subst (λ (q : Pasts). AtHost b a far q f.tables) (sym (call_there n.of_host)) (h.there e)))
      where
        noted : Noted (Event.Call A call) (Note.Called A n.of_host) w
        noted = record { of_host = n.of_host; said = refl; noted = n.noted; fits = n.fits }

    -- ---- a message is sent

    out_a : Keeps (Event.Out A) (note_of_out A w)
    out_a = go (next_output w.a) refl
      where
        go : (o : Option (List Bool)) → next_output w.a ≡ o → Keeps (Event.Out A) (Note.Out A (note_of_message (next_output w.a)))
        go None q = subst (λ (o : Option (List Bool)). Keeps (Event.Out A) (Note.Out A (note_of_message o))) (sym q) h
        go (Some m) q = subst (λ (o : Option (List Bool)). Keeps (Event.Out A) (Note.Out A (note_of_message o))) (sym q) (event_holds (Event.Out A) note n refl refl here there)
          where
            note : Note
            note = Note.Out A (HostNote.Out m)

            n : Noted (Event.Out A) (Note.Out A (HostNote.Out m)) w
            n = ap (λ (o : Option (List Bool)). Note.Out A (note_of_message o)) (sym q)

            unfound : record_findings u ToImp a m ≡ []
            unfound = none_found (record_findings u ToImp a m) (each_kept (Event.Out A) note w u n h.kept).0

            here : has_room_opened (follower_after_record number true a m f).tables.told ≡ true → AtHost a b (had_for b (hosts_after_note (Note.Out A (HostNote.Out m)) w).a) p.this (follower_after_record number true a m f).tables
            here e =
                let before = opened_before (Event.Out A) note n e in
                goes_opened w u known unfull room number f h.beside h.placed (h.opened before) (is_covered u.conn_tables f.tables h.covered) m q (unfull_now (Event.Out A) note n) (room_now (Event.Out A) note n) unfound p.this (h.here before)

            there : has_room_opened (follower_after_record number true a m f).tables.told ≡ true → AtHost b a far p.that (follower_after_record number true a m f).tables
            there e = at_away a b a far p.that f.tables (follower_after_record number true a m f).tables b_a (record_away number true a m f h.placed) (h.there (opened_before (Event.Out A) note n e))

    -- ---- it comes

    -- with this in the subnet
    abbrev come_file : OnLink → List (ℕ × ImpDirection × List Bool)
    come_file x = comes_to w.number_b (arriving w.number_a x)

    abbrev Came : ℕ → OnLink → Type 0
    Came link x = Holds (hosts_after_note (note_of_coming A link (arriving w.number_a x) w) w) (histories_then (note_of_coming A link (arriving w.number_a x) w) w p) (after_file u (come_file x)) (followed_from number (come_file x) f)

    came_a : (link : ℕ) (m : List Bool) → transit_of A link w ≡ Accepted m → Came link (Accepted m)
    came_a link m q =
        subst (λ (x : OnLink). Holds (hosts_after_note note w) (histories_then note w p) (after_file u (come_file x)) (followed_from number (come_file x) f)) q
        (event_holds event note n refl refl (subst Here (sym q) here) (subst There (sym q) there))
      where
        bits : List Bool
        bits = from_host w.number_a m

        event : Event
        event = Event.Deliver A link

        note : Note
        note = Note.Came A link (note_of_bits (from_host w.number_a m) w.b)

        n : Noted (Event.Deliver A link) (Note.Came A link (note_of_bits (from_host w.number_a m) w.b)) w
        n = sym (ap (λ (x : OnLink). note_of_coming A link (arriving w.number_a x) w) q)

        now : Tables
        now = (follower_after_record number false w.number_b (from_host w.number_a m) f).tables

        r : Written w link m
        r = written w link m known.0.joined q

        led : leader_in (from_host w.number_a m) ≡ Ok (leader_to w.number_a link)
        led = comes_led w link m known.0.joined r

        Here : OnLink → Type 0
        Here x = has_room_opened (followed_from number (come_file x) f).tables.told ≡ true → AtHost a b st (histories_then (Note.Came A link (note_of_bits (from_host w.number_a m) w.b)) w p).this (followed_from number (come_file x) f).tables

        There : OnLink → Type 0
        There x =
            has_room_opened (followed_from number (come_file x) f).tables.told ≡ true
            → AtHost b a (had_for a (after_note (note_of_bits (from_host w.number_a m) w.b) w.b)) (histories_then (Note.Came A link (note_of_bits (from_host w.number_a m) w.b)) w p).that (followed_from number (come_file x) f).tables

        said : histories_then (Note.Came A link (note_of_bits (from_host w.number_a m) w.b)) w p ≡ record p { that = pasts_after_message link (from_host w.number_a m) (message_in (from_host w.number_a m)) far p.that }
        said = ap (λ (x : HostNote). watched This (body_in link x) (seen w) p) (noted-message w.b (from_host w.number_a m) (leader_to w.number_a link) led refl)

        before : has_room_opened now.told ≡ true → has_room_opened f.tables.told ≡ true
        before e = fewer_opened (length f.tables.told) (length now.told) (record_away number false w.number_b (from_host w.number_a m) f h.placed).more e

        room_then : (after_record u FromImp w.number_b (from_host w.number_a m)).conn_tables.full ≡ false
        room_then = subst (λ (x : OnLink). (after_file u (come_file x)).conn_tables.full ≡ false) q (room_now (Event.Deliver A link) note n)

        unfound : record_findings u FromImp w.number_b (from_host w.number_a m) ≡ []
        unfound =
            none_found (record_findings u FromImp w.number_b (from_host w.number_a m))
            (subst (λ (x : OnLink). Pass never (findings_in u (come_file x))) q (each_kept (Event.Deliver A link) note w u n h.kept).0)

        here : Here (Accepted m)
        here e =
            subst (λ (x : Both). AtHost a b st x.this now) (sym said)
            (at_away b a b st p.this f.tables now a_b (record_away number false w.number_b (from_host w.number_a m) f h.placed) (h.here (before e)))

        there : There (Accepted m)
        there e =
            subst (λ (x : Both). AtHost b a (had_for a (after_note (note_of_bits (from_host w.number_a m) w.b) w.b)) x.that now) (sym said)
            (subst (λ (x : PeerState). AtHost b a x (pasts_after_message link (from_host w.number_a m) (message_in (from_host w.number_a m)) far p.that) now) (sym (came_to w link (from_host w.number_a m) known.0.joined led))
            (comes_opened (counterpart w) u (turn_known w u known) unfull room number f (turn_beside w.number_a w.number_b u f h.beside) h.placed (h.opened (before e)) (is_covered u.conn_tables f.tables h.covered) link m q room_then unfound p.that (h.there (before e))))

    deliver_a : (link : ℕ) → Keeps (Event.Deliver A link) (note_of_delivery A link w)
    deliver_a link = go (transit_of A link w) refl
      where
        go : (x : OnLink) → transit_of A link w ≡ x → Came link (transit_of A link w)
        go Free q = subst (Came link) (sym q) h
        go Delivered q = subst (Came link) (sym q) h
        go Lost q = subst (Came link) (sym q) h
        go Dead q = subst (Came link) (sym q) h
        go (Accepted m) q = subst (Came link) (sym q) (came_a link m q)

    -- ---- it is lost, or its destination is dead

    lose_a : (link : ℕ) → Keeps (Event.Lose A link) (note_of_loss A link w)
    lose_a link = go (is_accepted (transit_of A link w)) refl
      where
        go : (x : Bool) → is_accepted (transit_of A link w) ≡ x → Keeps (Event.Lose A link) (if is_accepted (transit_of A link w) then Note.Lost A link else Note.Nothing A link Move.Lose)
        go true q =
            subst (λ (x : Bool). Keeps (Event.Lose A link) (if x then Note.Lost A link else Note.Nothing A link Move.Lose)) (sym q)
            (event_holds (Event.Lose A link) (Note.Lost A link) (sym (ap (λ (x : Bool). if x then Note.Lost A link else Note.Nothing A link Move.Lose) q)) refl refl h.here h.there)
        go false q = subst (λ (x : Bool). Keeps (Event.Lose A link) (if x then Note.Lost A link else Note.Nothing A link Move.Lose)) (sym q) h

    die_a : (link : ℕ) → Keeps (Event.Dead A link) (note_of_death A link w)
    die_a link = go (is_accepted (transit_of A link w)) refl
      where
        go : (x : Bool) → is_accepted (transit_of A link w) ≡ x → Keeps (Event.Dead A link) (if is_accepted (transit_of A link w) then Note.FoundDead A link else Note.Nothing A link Move.Dead)
        go true q =
            subst (λ (x : Bool). Keeps (Event.Dead A link) (if x then Note.FoundDead A link else Note.Nothing A link Move.Dead)) (sym q)
            (event_holds (Event.Dead A link) (Note.FoundDead A link) (sym (ap (λ (x : Bool). if x then Note.FoundDead A link else Note.Nothing A link Move.Dead) q)) refl refl h.here h.there)
        go false q = subst (λ (x : Bool). Keeps (Event.Dead A link) (if x then Note.FoundDead A link else Note.Nothing A link Move.Dead)) (sym q) h

    -- ---- it is answered

    abbrev answer_file : ℕ → Option ℕ → List (ℕ × ImpDirection × List Bool)
    answer_file link o = comes_to w.number_a (answering w.number_b link o)

    abbrev Opened_so : ℕ → Option ℕ → Type 0
    Opened_so link o =
        Holds (hosts_after_note (note_of_answering A link (answering w.number_b link o) w) w) (histories_then (note_of_answering A link (answering w.number_b link o) w) w p) (after_file u (answer_file link o)) (followed_from number (answer_file link o) f)

    opened_a : (link kind : ℕ) → answer_kind (transit_of A link w) ≡ Some kind → Opened_so link (Some kind)
    opened_a link kind q =
        subst (λ (o : Option ℕ). Holds (hosts_after_note note w) (histories_then note w p) (after_file u (answer_file link o)) (followed_from number (answer_file link o) f)) q
        (event_holds (Event.Answer A link) note n refl refl (subst Here (sym q) here) (subst There (sym q) there))
      where
        note : Note
        note = Note.Answered A link (note_of_bits (answer_bits kind w.number_b link) w.a)

        n : Noted (Event.Answer A link) (Note.Answered A link (note_of_bits (answer_bits kind w.number_b link) w.a)) w
        n = sym (ap (λ (o : Option ℕ). note_of_answering A link (answering w.number_b link o) w) q)

        l : AnswerLed w link kind
        l = answer_leads w link kind known.0.joined q

        now : Tables
        now = (follower_after_record number false w.number_a (answer_bits kind w.number_b link) f).tables

        same : now ≡ f.tables
        same = tables_answered number w.number_a (answer_leader kind w.number_b link) (answer_bits kind w.number_b link) f l.led b_a l.not_regular l.is_one

        said : histories_then (Note.Answered A link (note_of_bits (answer_bits kind w.number_b link) w.a)) w p ≡ p
        said = answered_histories link (note_of_bits (answer_bits kind w.number_b link) w.a) (seen w) p

        state : had_for b (after_note (note_of_bits (answer_bits kind w.number_b link) w.a) w.a) ≡ answer_comes link (answer_of kind) st
        state =
            ap (λ (x : HostNote). had_for b (after_note x w.a)) (noted-answer w.a (answer_bits kind w.number_b link) (answer_leader kind w.number_b link) known.0.joined.stand.a l.led l.is_one)
            ∙ had-changed b (answer_comes link (answer_of kind)) w.a known.0.joined.stand.a

        Here : Option ℕ → Type 0
        Here o =
            has_room_opened (followed_from number (answer_file link o) f).tables.told ≡ true
            → AtHost a b (had_for b (after_note (note_of_bits (answer_bits kind w.number_b link) w.a) w.a)) (histories_then (Note.Answered A link (note_of_bits (answer_bits kind w.number_b link) w.a)) w p).this (followed_from number (answer_file link o) f).tables

        There : Option ℕ → Type 0
        There o =
            has_room_opened (followed_from number (answer_file link o) f).tables.told ≡ true
            → AtHost b a far (histories_then (Note.Answered A link (note_of_bits (answer_bits kind w.number_b link) w.a)) w p).that (followed_from number (answer_file link o) f).tables

        still : AtHost a b st p.this f.tables → AtHost a b (answer_comes link (answer_of kind) st) p.this f.tables
        still at =
            still_opened a b st (answer_comes link (answer_of kind) st) p.this p.this f.tables f.tables (λ q. []) (λ q. false) (λ q. opened_lives st p.this sound q link (answer_of kind)) (λ q x y. refl)
            (λ q x y. let begins : false ≡ true = (opened_lives st p.this sound q link (answer_of kind)).begins x y in absurd (cc begins)) at

        here : Here (Some kind)
        here e =
            subst (λ (x : Both). AtHost a b (had_for b (after_note (note_of_bits (answer_bits kind w.number_b link) w.a) w.a)) x.this now) (sym said)
            (subst (λ (x : Tables). AtHost a b (had_for b (after_note (note_of_bits (answer_bits kind w.number_b link) w.a) w.a)) p.this x) (sym same)
            (subst (λ (x : PeerState). AtHost a b x p.this f.tables) (sym state) (still (h.here (sym (ap (λ (x : Tables). has_room_opened x.told) same) ∙ e)))))

        there : There (Some kind)
        there e =
            subst (λ (x : Both). AtHost b a far x.that now) (sym said)
            (subst (λ (x : Tables). AtHost b a far p.that x) (sym same) (h.there (sym (ap (λ (x : Tables). has_room_opened x.told) same) ∙ e)))

    answer_a : (link : ℕ) → Keeps (Event.Answer A link) (note_of_answer A link w)
    answer_a link = go (answer_kind (transit_of A link w)) refl
      where
        go : (o : Option ℕ) → answer_kind (transit_of A link w) ≡ o → Opened_so link (answer_kind (transit_of A link w))
        go None q = subst (Opened_so link) (sym q) h
        go (Some kind) q = subst (Opened_so link) (sym q) (opened_a link kind q)

  -- ---- of both sides

  module _ (w : Hosts) (p : Both) (u : Monitor) (number : ℕ) (f : Follower) (h : Holds w p u f) where
    t : Holds (counterpart w) (turn p) u f
    t = turn_holds w p u f h

    -- what is so of the hosts with their sides turned
    abbrev After : List (ℕ × ImpDirection × List Bool) → Hosts → Both → Type 0
    After file x q = Holds x q (after_file u file) (followed_from number file f)

    turned_after : (file : List (ℕ × ImpDirection × List Bool)) (note note' : Note) → After file (hosts_after_note note' (counterpart w)) (histories_then note' (counterpart w) (turn p)) → counterpart (hosts_after_note note' (counterpart w)) ≡ hosts_after_note note w → turn (histories_then note' (counterpart w) (turn p)) ≡ histories_then note w p
        → After file (hosts_after_note note w) (histories_then note w p)
    turned_after file note note' k e g =
        subst (λ (x : Hosts). After file x (histories_then note w p)) e
        (subst (λ (q : Both). After file (counterpart (hosts_after_note note' (counterpart w))) q) g
        (turn_holds (hosts_after_note note' (counterpart w)) (histories_then note' (counterpart w) (turn p)) (after_file u file) (followed_from number file f) k))

    call_b : (call : Call) (note : Note) → IsCalled B call note w → After [] (hosts_after_note note w) (histories_then note w p)
    call_b call note n =
        subst (λ (x : Note). After [] (hosts_after_note x w) (histories_then x w p)) (sym n.said)
        (turned_after [] (Note.Called B n.of_host) (Note.Called A n.of_host)
        (call_a (counterpart w) (turn p) u number f t call (Note.Called A n.of_host) (record { of_host = n.of_host; said = refl; noted = n.noted; fits = n.fits })) refl (watched_turned (call_body n.of_host) (seen w) p))

    came_b : (link : ℕ) (o : Option (List Bool)) (file : List (ℕ × ImpDirection × List Bool))
        → After file (hosts_after_note (note_of_coming A link o (counterpart w)) (counterpart w)) (histories_then (note_of_coming A link o (counterpart w)) (counterpart w) (turn p)) → After file (hosts_after_note (note_of_coming B link o w) w) (histories_then (note_of_coming B link o w) w p)
    came_b link None file k = turned_after file (note_of_coming B link None w) (note_of_coming A link None (counterpart w)) k refl refl
    came_b link (Some bits) file k = turned_after file (note_of_coming B link (Some bits) w) (note_of_coming A link (Some bits) (counterpart w)) k refl (watched_turned (body_in link (note_of_bits bits w.a)) (seen w) p)

    opened_b : (link : ℕ) (o : Option (List Bool)) (file : List (ℕ × ImpDirection × List Bool))
        → After file (hosts_after_note (note_of_answering A link o (counterpart w)) (counterpart w)) (histories_then (note_of_answering A link o (counterpart w)) (counterpart w) (turn p)) → After file (hosts_after_note (note_of_answering B link o w) w) (histories_then (note_of_answering B link o w) w p)
    opened_b link None file k = turned_after file (note_of_answering B link None w) (note_of_answering A link None (counterpart w)) k refl refl
    opened_b link (Some bits) file k = turned_after file (note_of_answering B link (Some bits) w) (note_of_answering A link (Some bits) (counterpart w)) k refl (watched_turned (answer_body link (note_of_bits bits w.b)) (seen w) p)

    lost_b : (link : ℕ) (x : Bool) → After [] (hosts_after_note (if x then Note.Lost A link else Note.Nothing A link Move.Lose) (counterpart w)) (histories_then (if x then Note.Lost A link else Note.Nothing A link Move.Lose) (counterpart w) (turn p))
        → After [] (hosts_after_note (if x then Note.Lost B link else Note.Nothing B link Move.Lose) w) (histories_then (if x then Note.Lost B link else Note.Nothing B link Move.Lose) w p)
    lost_b link true k = turned_after [] (Note.Lost B link) (Note.Lost A link) k refl refl
    lost_b link false k = turned_after [] (Note.Nothing B link Move.Lose) (Note.Nothing A link Move.Lose) k refl refl

    dead_b : (link : ℕ) (x : Bool) → After [] (hosts_after_note (if x then Note.FoundDead A link else Note.Nothing A link Move.Dead) (counterpart w)) (histories_then (if x then Note.FoundDead A link else Note.Nothing A link Move.Dead) (counterpart w) (turn p))
        → After [] (hosts_after_note (if x then Note.FoundDead B link else Note.Nothing B link Move.Dead) w) (histories_then (if x then Note.FoundDead B link else Note.Nothing B link Move.Dead) w p)
    dead_b link true k = turned_after [] (Note.FoundDead B link) (Note.FoundDead A link) k refl refl
    dead_b link false k = turned_after [] (Note.Nothing B link Move.Dead) (Note.Nothing A link Move.Dead) k refl refl

    each_side : (event : Event) (note : Note) → Noted event note w → After (passes_between event note w) (hosts_after_note note w) (histories_then note w p)
    each_side (Event.Call A call) note n = call_a w p u number f h call note n
    each_side (Event.Call B call) note n = call_b call note n
    each_side (Event.Out A) note n = subst (λ (x : Note). After (passes_between (Event.Out A) x w) (hosts_after_note x w) (histories_then x w p)) (sym n) (out_a w p u number f h)
    each_side (Event.Out B) note n =
        subst (λ (x : Note). After (passes_between (Event.Out B) x w) (hosts_after_note x w) (histories_then x w p)) (sym n)
        (turned_after (passes_between (Event.Out B) (note_of_out B w) w) (note_of_out B w) (note_of_out A (counterpart w)) (out_a (counterpart w) (turn p) u number f t) refl refl)
    each_side (Event.Deliver A link) note n = subst (λ (x : Note). After (passes_between (Event.Deliver A link) x w) (hosts_after_note x w) (histories_then x w p)) (sym n) (deliver_a w p u number f h link)
    each_side (Event.Deliver B link) note n =
        subst (λ (x : Note). After (passes_between (Event.Deliver B link) x w) (hosts_after_note x w) (histories_then x w p)) (sym n)
        (came_b link (arriving w.number_b (transit_of B link w)) (comes_to w.number_a (arriving w.number_b (transit_of B link w))) (deliver_a (counterpart w) (turn p) u number f t link))
    each_side (Event.Lose A link) note n = subst (λ (x : Note). After (passes_between (Event.Lose A link) x w) (hosts_after_note x w) (histories_then x w p)) (sym n) (lose_a w p u number f h link)
    each_side (Event.Lose B link) note n =
        subst (λ (x : Note). After (passes_between (Event.Lose B link) x w) (hosts_after_note x w) (histories_then x w p)) (sym n) (lost_b link (is_accepted (transit_of B link w)) (lose_a (counterpart w) (turn p) u number f t link))
    each_side (Event.Dead A link) note n = subst (λ (x : Note). After (passes_between (Event.Dead A link) x w) (hosts_after_note x w) (histories_then x w p)) (sym n) (die_a w p u number f h link)
    each_side (Event.Dead B link) note n =
        subst (λ (x : Note). After (passes_between (Event.Dead B link) x w) (hosts_after_note x w) (histories_then x w p)) (sym n) (dead_b link (is_accepted (transit_of B link w)) (die_a (counterpart w) (turn p) u number f t link))
    each_side (Event.Answer A link) note n = subst (λ (x : Note). After (passes_between (Event.Answer A link) x w) (hosts_after_note x w) (histories_then x w p)) (sym n) (answer_a w p u number f h link)
    each_side (Event.Answer B link) note n =
        subst (λ (x : Note). After (passes_between (Event.Answer B link) x w) (hosts_after_note x w) (histories_then x w p)) (sym n)
        (opened_b link (answer_about w.number_a link (transit_of B link w)) (comes_to w.number_b (answer_about w.number_a link (transit_of B link w))) (answer_a (counterpart w) (turn p) u number f t link))

  pub each_opened : EachEvent Holds
  each_opened event note w p u number f n h = each_side w p u number f h event note n

  -- so the texts reported at both satisfy the law
  pub opened_at : (w : Hosts) (p : Both) (u : Monitor) (f : Follower) → Holds w p u f → has_room_opened f.tables.told ≡ true → OpenedAt w p f
  opened_at w p u f h e = record {
    here = h.here e;
    there = h.there e;
    sound_here = sound w p u 0 f h;
    sound_there = sound (counterpart w) (turn p) u 0 f (turn_holds w p u f h);
  }
