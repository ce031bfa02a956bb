-- In the file of two hosts with the subnet between them nothing is ever full: after each event the
-- entries at an interface, with the commands in flight to it, are few. Only a message sent by a host that
-- is up may add more; and then the host itself bounds them.
use Rattle.std.proofs.Common.{◌≡◌, ◌≢◌, ℕ, ◌+◌, ◌*◌, ◌<◌, ◌≤◌, ◌==◌, Bool, true, false, not, if◌then◌else◌, List, [], ◌++◌, length, All, Option, None, Some, inl, inr, Result, Ok, filter, refl, sym, ap, ◌∙◌, subst, arith}
use Rattle.std.proofs.lemmas.Bool.{eqb-true}
use Rattle.ncp_numbers.specs.Bytes.{bits_of_bytes}
use Rattle.ncp_leader.specs.declared.fault.MessageFault.{MessageFault}
use Rattle.ncp_leader.specs.Leader.{leader_in}
use Rattle.ncp_leader.specs.Message.{Message, message_in, message_with}
use Rattle.ncp_wire.specs.declared.command.Command.{Command}
use Rattle.ncp_wire.specs.Spelling.{IsCommand, spellings}
use Rattle.ncp_control.specs.Texts.{items_of}
use Rattle.ncp_slot.specs.declared.slot.Slot.{Slot}
use Rattle.ncp_slot.specs.Slot.{is_empty}
use Rattle.ncp_slot.specs.Slots.{LinkSlot, slot_at, is_quiet}
use Rattle.ncp_slot.proofs.Places.{slot_at-no_slots}
use Rattle.ncp_subnet.specs.Messages.{arriving, answering}
use Rattle.ncp_subnet.specs.Transit.{is_accepted, answer_kind}
use Rattle.ncp_subnet.specs.Ways.{OnLink}
use Rattle.ncp_subnet.specs.Subnet.{Subnet, transit_at, with_transit}
use Rattle.ncp_model.specs.Effect.{answer}
use Rattle.ncp_model.specs.Ends.{cut_in}
use Rattle.ncp_model.specs.Phase.{up}
use Rattle.ncp_model.specs.Peers.{Peer, peer_sends, cuts}
use Rattle.ncp_model.specs.Sending.{next_commands}
use Rattle.ncp_model.specs.declared.limits.TheConstants.{MAX_CONTROL}
use Rattle.ncp_proof_runs.proofs.HostRuns.{some_same}
use Rattle.ncp_peer.specs.PeerState.{PeerState, new_state, answer_comes}
use Rattle.ncp_peer.specs.Hearing.{answer_of, is_wrong_link}
use Rattle.ncp_peer.specs.Output.{leader_to, message_to, control_message, text_message, output_by, after_by, after_next, after_output}
use Rattle.ncp_host.specs.Turns.{next_output, after_next_output}
use Rattle.ncp_transcript.specs.declared.input.Input.{Input}
use Rattle.ncp_transcript.specs.declared.call.Call.{Call}
use Rattle.ncp_transcript.specs.declared.note.HostNote.{HostNote}
use Rattle.ncp_transcript.specs.After.{after_note}
use Rattle.ncp_transcript.specs.Noting.{note_of_message, note_of_output, note_of_bits}
use Rattle.ncp_transcript.proofs.Saying.{noted_said}
use Rattle.ncp_transcript_two.specs.Subnet.{Holds, Free, Accepted, Delivered, Lost, Dead, set_at, from_host, answer_bits}
use Rattle.ncp_transcript_two.specs.World.{World, state_after_received}
use Rattle.ncp_transcript_two.specs.Tie.{AreCommands, IsText}
use Rattle.ncp_transcript_two.specs.Underway.{commands_of, not_come, commands_out}
use Rattle.ncp_transcript_two.specs.declared.side.Side.TheVariants.{A}
use Rattle.ncp_transcript_two.specs.declared.event.Event.{Event}
use Rattle.ncp_transcript_two.specs.declared.note.Move.{Move}
use Rattle.ncp_transcript_two.specs.declared.note.Note.{Note}
use Rattle.ncp_transcript_two.specs.Between.{Hosts, new_hosts, transit_of, hosts_after_note}
use Rattle.ncp_transcript_two.specs.Happening.{IsCalled, note_of_coming, note_of_answering, note_of_out, note_of_delivery, note_of_loss, note_of_death, note_of_answer}
use Rattle.ncp_transcript_two.specs.Seen.{had_for, seen}
use Rattle.ncp_transcript_two.proofs.Comings.{small}
use Rattle.ncp_transcript_two.proofs.OnePeer.{had-changed, had-sent, noted-answer}
use Rattle.ncp_transcript_two.proofs.SeenSteps.{seen_with}
use Rattle.ncp_transcript_two.proofs.Well.{cut-written}
use Rattle.ncp_transcript_two.proofs.Written.{read, control_text, answer_leader}
use Rattle.ncp_interface.specs.declared.message_class.MessageClass.{MessageClass}
use Rattle.ncp_monitor.specs.declared.conn_state.ConnState.{ConnState}
use Rattle.ncp_monitor.specs.declared.monitor.Monitor.{Monitor}
use Rattle.ncp_interface.specs.declared.imp_direction.ImpDirection.TheVariants.{ToImp, FromImp}
use Rattle.ncp_monitor.specs.ConnStates.{SeenTables, is_conn_between}
use Rattle.ncp_interface.specs.Contents.{is_unused, message_class, items_said}
use Rattle.ncp_monitor.specs.Judged.{new_monitor, next_number, sees, fresh_out, monitor_after_out, after_in, turn_at, after_said, record_findings, after_record}
use Rattle.ncp_monitor.proofs.Following.{out_is, in_is, answer_is}
use Rattle.ncp_proof_monitor.specs.Worlds.{comes_to, goes_from}
use Rattle.ncp_proof_monitor.proofs.HostSlots.{call_noted}
use Rattle.ncp_proof_monitor.proofs.Fresh.{not_quiet}
use Rattle.ncp_proof_monitor.proofs.Laid.{fitting_all, weighs}
use Rattle.ncp_proof_monitor_allocation.proofs.Elsewhere.{Alike}
use Rattle.ncp_proof_monitor_replies.proofs.BooksRecord.{out_tables, in_tables, answer_tables, record_alike}
use Rattle.ncp_proof_monitor_messages.proofs.Arrivals.{line_lost, line_reported, is_told, goes_lost, comes_on, none_left, line_back, line_same, back_same}
use Rattle.ncp_proof_monitor_messages.proofs.AsRead.{items, control_of}
use Rattle.ncp_proof_monitor_messages.proofs.Between.{Leaves, leaves, Written, written, comes_led, AnswerLed, answer_leads}
use Rattle.ncp_proof_monitor_messages.proofs.Both.{Both, kept_by, control_said, out_slot, Reported_how, reported_how, a_b, b_a, there, own_seen, is_ready, counts_now, reads_as, new_had}
use Rattle.ncp_proof_monitor_messages.proofs.Coming.{received_slots, came_to, Text, a_text, Control, control}
use Rattle.ncp_proof_monitor_messages.proofs.Counts.{line}
use Rattle.ncp_proof_monitor_messages.proofs.Moves.{Keeps, goes_on, commands_read, line_zero, line_other, line_again}
use Rattle.ncp_proof_monitor_messages.proofs.OwnOut.{is_fresh_out}
use Rattle.ncp_proof_monitor_messages.proofs.Sides.{OfA, both_sides}
use Rattle.ncp_proof_monitor_messages.proofs.Walk.{Shows, Steps}
use Rattle.ncp_proof_monitor_network.proofs.WholeWalk.{never, each_known, known_begins}
use Rattle.ncp_proof_monitor_network.proofs.SessionInvariants.{Known}
use Rattle.ncp_proof_follow.proofs.NeverFull.{tame_new}
use Rattle.ncp_proof_follow.proofs.Fewer.{lives_at, others_in, Fewer}
use Rattle.ncp_proof_follow.proofs.Holding.{Holding, Held, turn_held, between_of, OneMore, one_more, none_passes, alone, FewOn, on_of, of_on, fewer_on, same_most, itself_most}
use Rattle.ncp_proof_follow.proofs.FewHeard.{said_few, again_few, few_here, few_same, fitting_few, fitting_resets}
use Rattle.ncp_proof_follow.proofs.FewUp.{few_where_up}

-- ---- calls

called : (w : Hosts) (monitor : Monitor) (call : Call) (note : Note) → IsCalled A call note w → Held w monitor → Held (hosts_after_note note w) monitor
called w monitor call note n k = (known, subst (λ (x : Note). Holding (hosts_after_note x w) monitor) (sym n.said) now)
  where
    h : HostNote
    h = n.of_host

    known : Known (hosts_after_note note w) monitor
    known = (each_known (Event.Call A call) note w monitor n k.0).1

    after : Both (hosts_after_note (Note.Called A h) w) monitor
    after = (subst (λ (x : Note). Known (hosts_after_note x w) monitor) n.said known).0

    keeps : Keeps (had_for w.number_b w.a) (had_for w.number_b (after_note h w.a))
    keeps = kept_by w.number_a w.number_b w.a h monitor k.0.0.joined.stand.a after.joined.stand.a (noted_said (Input.Call call) h w.a n.noted) (call_noted call h w.a n.noted) k.0.0.at_a

    now : Holding (hosts_after_note (Note.Called A h) w) monitor
    now = record {
      tame = k.1.tame;
      fewer = of_on (hosts_after_note (Note.Called A h) w) monitor
          (fewer_on w.number_a w.number_b monitor.conn_tables monitor.conn_tables (line (seen w).this (seen w).going) (line (seen w).that (seen w).coming) (line (had_for w.number_b (after_note h w.a)) (seen w).going) (line (seen w).that (seen w).coming)
          (ap commands_out (keeps.line ((seen w).going 0))) refl (itself_most (lives_at w.number_a w.number_b monitor.conn_tables)) (itself_most (lives_at w.number_b w.number_a monitor.conn_tables)) (on_of w monitor k.1.fewer));
      unfilled = k.1.unfilled;
      open_books = k.1.open_books;
    }

-- ---- a message is sent

-- its effect on the line, and on the entries at its host's interface, if the host is not up
record GoesOut (w : Hosts) (monitor now : Monitor) (on : ℕ) (m : List Bool) : Type 0 where
  pub going : List Command
  pub is : line (goes_on on m (seen w)).this (goes_on on m (seen w)).going ≡ going
  pub short : length going ≤ 120
  pub quiet : up (had_for w.number_b w.a).peer.phase ≡ false → others_in going ≤ others_in (line (seen w).this (seen w).going)
  pub few : up (had_for w.number_b w.a).peer.phase ≡ false → lives_at w.number_a w.number_b now.conn_tables ≤ lives_at w.number_a w.number_b monitor.conn_tables

up_after : (slot : LinkSlot) (on : ℕ) (p : Peer) → up (after_by slot on p).phase ≡ up p.phase
up_after (Slot.Ready r) on p = refl
up_after (Slot.Travelling r) on p = refl
up_after (Slot.Held r) on p = refl
up_after Slot.Empty on p = go (on == 0)
  where
    go : (x : Bool) → up (if x then peer_sends p else cuts on p).phase ≡ up p.phase
    go true = refl
    go false = refl

text_reading : (x : Message) → (x.leader.link == 0) ≡ false → message_class x ≡ MessageClass.Control → ⊥
text_reading x z e = go (is_unused x.leader.link) (x.leader.link == 0) z (x.size == 8) e
  where
    go : (a b : Bool) → b ≡ false → (c : Bool) → (if a then MessageClass.Stop else if not b then MessageClass.Text else if c then MessageClass.Control else MessageClass.Stop) ≡ MessageClass.Control → ⊥
    go true b z c e = cc e
    go false true z c e = cc z
    go false false z c e = cc e

module _ (w : Hosts) (monitor : Monitor) (k : Held w monitor) (m : List Bool) (more : OneMore w (after_record monitor ToImp w.number_a m)) where
  abbrev a : ℕ
  a = w.number_a

  abbrev b : ℕ
  b = w.number_b

  abbrev v : World
  v = seen w

  abbrev st : PeerState
  st = had_for w.number_b w.a

  abbrev now : Monitor
  now = after_record monitor ToImp w.number_a m

  abbrev both : Both w monitor
  both = k.0.0

  -- at the other interface nothing is seen
  far : Alike w.number_b w.number_a monitor.conn_tables now.conn_tables
  far = record_alike monitor ToImp w.number_a m w.number_b w.number_a (a_b w monitor both)

  module _ (on : ℕ) (led : leader_in m ≡ Ok (leader_to w.number_b on)) (ready : output_by (slot_at st.slots on) w.number_b on st.peer ≡ Some m) where
    abbrev out : Monitor
    out = monitor_after_out (sees monitor w.number_a) w.number_a w.number_b on m

    abbrev fresh : Bool
    fresh = fresh_out (sees monitor w.number_a) w.number_a w.number_b on m

    is_fresh : fresh ≡ is_empty (slot_at st.slots on)
    is_fresh =
        is_fresh_out w.number_a w.number_b on m (slot_at st.slots on) st.peer monitor (b_a w monitor both) both.joined.stand.fits_a both.joined.stand.fits_b both.ways.sound.long led ready
        (k.0.1.parley k.1.unfilled k.1.open_books).awake_h.told (own_seen w monitor both k.1.unfilled).stands.phased.known
        (λ f. (both.at_a.watched.follows f).agrees w.number_b st (there w monitor both) on) more.unfilled

    now_is : now ≡ after_said out w.number_a w.number_b (turn_at out w.number_a w.number_b w.number_a true) fresh (message_in m)
    now_is = out_is monitor w.number_a w.number_b on m led (b_a w monitor both)

    books_out : out.conn_tables ≡ (sees monitor w.number_a).conn_tables
    books_out = out_tables (sees monitor w.number_a) w.number_a w.number_b on m

    -- its own interface gains at most three connections for each command that is no reset
    few_more : (cs : List Command) → length now.conn_tables.conns ≤ length monitor.conn_tables.conns + 3 * others_in cs → lives_at w.number_a w.number_b now.conn_tables ≤ lives_at w.number_a w.number_b monitor.conn_tables + 3 * others_in cs
    few_more cs l = few_here w.number_a w.number_b monitor.conn_tables now.conn_tables (3 * others_in cs) (a_b w monitor both) (λ me n d o. (k.1.tame.others me n d o).0) far l

    new_few : (x : Message) (cs : List Command) → is_empty (slot_at st.slots on) ≡ true → message_in m ≡ Ok x → (message_class x ≡ MessageClass.Control → items_said x.text ≡ items_of cs None) → length now.conn_tables.conns ≤ length monitor.conn_tables.conns + 3 * others_in cs
    new_few x cs e reads is =
        subst (λ (y : Monitor). length y.conn_tables.conns ≤ length monitor.conn_tables.conns + 3 * others_in cs) (sym now_is)
        (subst (λ (y : Bool). length (after_said out w.number_a w.number_b (turn_at out w.number_a w.number_b w.number_a true) y (message_in m)).conn_tables.conns ≤ length monitor.conn_tables.conns + 3 * others_in cs) (sym (is_fresh ∙ e))
        (subst (λ (r : Result Message MessageFault). length (after_said out w.number_a w.number_b (turn_at out w.number_a w.number_b w.number_a true) true r).conn_tables.conns ≤ length monitor.conn_tables.conns + 3 * others_in cs) (sym reads)
        (subst (λ (conn_tables : SeenTables). length (after_said out w.number_a w.number_b (turn_at out w.number_a w.number_b w.number_a true) true (Ok x)).conn_tables.conns ≤ length conn_tables.conns + 3 * others_in cs) books_out
        (said_few out w.number_a w.number_b w.number_a true x cs is))))

    -- it is sent again
    again : (r : List Bool) → slot_at st.slots on ≡ Slot.Ready r → GoesOut w monitor now on m
    again r q = record { going = line v.this v.going; is = line_again on m v is; short = k.1.fewer.going_short; quiet = λ u. itself_most (others_in (line v.this v.going)); few = λ u. same_most (lives_at a b now.conn_tables) (lives_at a b monitor.conn_tables) conns }
      where
        same : r ≡ m
        same = some_same (ap (λ (x : LinkSlot). output_by x w.number_b on st.peer) (sym q) ∙ ready)

        is : slot_at st.slots on ≡ Slot.Ready m
        is = q ∙ ap (λ (x : List Bool). Slot.Ready x) same

        all : now.conn_tables.conns ≡ monitor.conn_tables.conns
        all =
            ap (λ (y : Monitor). y.conn_tables.conns) now_is
            ∙ ap (λ (y : Bool). (after_said out w.number_a w.number_b (turn_at out w.number_a w.number_b w.number_a true) y (message_in m)).conn_tables.conns) (is_fresh ∙ ap is_empty q)
            ∙ again_few out w.number_a w.number_b w.number_a true (message_in m)
            ∙ ap (λ (conn_tables : SeenTables). conn_tables.conns) books_out

        conns : lives_at a b now.conn_tables ≡ lives_at a b monitor.conn_tables
        conns = ap (λ (ls : List ConnState). length (filter (is_conn_between a b) ls)) all

    waits_on : {P : Type 0} → (r : List Bool) → slot_at st.slots on ≡ Slot.Travelling r → P
    waits_on r q = let nay : None ≡ Some m = ap (λ (x : LinkSlot). output_by x w.number_b on st.peer) (sym q) ∙ ready in absurd (cc)

    held_on : {P : Type 0} → (r : List Bool) → slot_at st.slots on ≡ Slot.Held r → P
    held_on r q = let nay : None ≡ Some m = ap (λ (x : LinkSlot). output_by x w.number_b on st.peer) (sym q) ∙ ready in absurd (cc)

  no_more : (x y z : ℕ) → x ≤ y + 3 * z → z ≡ 0 → x ≤ y
  no_more x y z e f = omega (arith, e, f)

  at_most_none : (x y : ℕ) → x ≡ 0 → x ≤ y
  at_most_none x y e = omega (arith, e)

  zero_goes : leader_in m ≡ Ok (leader_to w.number_b 0) → output_by (slot_at st.slots 0) w.number_b 0 st.peer ≡ Some m → GoesOut w monitor now 0 m
  zero_goes led ready = by (slot_at st.slots 0) refl
    where
      by : (slot : LinkSlot) → slot_at st.slots 0 ≡ slot → GoesOut w monitor now 0 m
      by (Slot.Ready r) q = again 0 led ready r q
      by (Slot.Travelling r) q = waits_on 0 led ready r q
      by (Slot.Held r) q = held_on 0 led ready r q
      by Slot.Empty q =
          let cs : List Command = next_commands st.peer.phase.waiting in
          let c = control_said w.number_b cs m (ap (λ (x : LinkSlot). output_by x w.number_b 0 st.peer) (sym q) ∙ ready) in
          let each : All IsCommand cs = fitting_all MAX_CONTROL st.peer.phase.waiting (is_ready w monitor both).fine.well.waiting in
          let fits : AreCommands cs = (each, weighs MAX_CONTROL st.peer.phase.waiting) in
          let reads : message_in m ≡ Ok (control_of w.number_b cs) = ap message_in c.0 ∙ read w.number_b 0 8 (bits_of_bytes (spellings cs)) both.joined.stand.fits_b (omega arith) (control_text cs fits) in
          let resets : up st.peer.phase ≡ false → others_in cs ≡ 0 = λ u. fitting_resets MAX_CONTROL st.peer.phase.waiting ((counts_now w monitor both).calm u) in
          record {
            going = cs;
            is = line_zero m v ∙ ap commands_of c.0 ∙ commands_read w.number_b cs both.joined.stand.fits_b fits;
            short = fitting_few MAX_CONTROL st.peer.phase.waiting;
            quiet = λ u. at_most_none (others_in cs) (others_in (line v.this v.going)) (resets u);
            few = λ u. no_more (lives_at a b now.conn_tables) (lives_at a b monitor.conn_tables) (others_in cs)
                (few_more 0 led ready cs (new_few 0 led ready (control_of w.number_b cs) cs (ap is_empty q) reads (λ e. items cs each))) (resets u);
          }

  other_goes : (on : ℕ) → (on == 0) ≡ false → is_wrong_link on ≡ false → leader_in m ≡ Ok (leader_to w.number_b on) → output_by (slot_at st.slots on) w.number_b on st.peer ≡ Some m → GoesOut w monitor now on m
  other_goes on z right led ready = by (slot_at st.slots on) refl
    where
      by_text : (o : Option (ℕ × List Bool)) → answer (cut_in on st.peer.ends) ≡ o → text_message w.number_b on o ≡ Some m → slot_at st.slots on ≡ Slot.Empty → GoesOut w monitor now on m
      by_text None f e q = absurd (cc)
      by_text (Some t) f e q =
          let fits : IsText t.0 t.1 = cut-written on st.peer.ends t (is_ready w monitor both).fine.good (is_ready w monitor both).fine.well.ends f in
          let is : message_to w.number_b on t.0 t.1 ≡ m = cc in
          let reads : message_in m ≡ Ok (message_with (leader_to w.number_b on) t.0 t.1) = ap message_in (sym is) ∙ read w.number_b on t.0 t.1 both.joined.stand.fits_b (small on right) fits in
          record {
            going = line v.this v.going;
            is = line_other on m v z;
            short = k.1.fewer.going_short;
            quiet = λ u. itself_most (others_in (line v.this v.going));
            few = λ u. no_more (lives_at a b now.conn_tables) (lives_at a b monitor.conn_tables) 0
                (few_more on led ready [] (new_few on led ready (message_with (leader_to w.number_b on) t.0 t.1) [] (ap is_empty q) reads (λ e. absurd (text_reading (message_with (leader_to w.number_b on) t.0 t.1) z e)))) refl;
          }

      by : (slot : LinkSlot) → slot_at st.slots on ≡ slot → GoesOut w monitor now on m
      by (Slot.Ready r) q = again on led ready r q
      by (Slot.Travelling r) q = waits_on on led ready r q
      by (Slot.Held r) q = held_on on led ready r q
      by Slot.Empty q =
          by_text (answer (cut_in on st.peer.ends)) refl
          (sym (ap (λ (x : Bool). if x then control_message w.number_b (next_commands st.peer.phase.waiting) else text_message w.number_b on (answer (cut_in on st.peer.ends))) z) ∙ ap (λ (x : LinkSlot). output_by x w.number_b on st.peer) (sym q) ∙ ready) q

  one_goes : (l : Leaves w m) → GoesOut w monitor now l.on m
  one_goes l = go (l.on == 0) refl
    where
      Went : ℕ → Type 0
      Went j = leader_in m ≡ Ok (leader_to w.number_b j) → output_by (slot_at st.slots j) w.number_b j st.peer ≡ Some m → GoesOut w monitor now j m

      go : (x : Bool) → (l.on == 0) ≡ x → GoesOut w monitor now l.on m
      go true z = subst Went (sym (eqb-true l.on 0 z)) zero_goes l.led l.ready
      go false z = other_goes l.on z l.right l.led l.ready

went : (w : Hosts) (monitor : Monitor) → Held w monitor → Shows never Held (goes_from w.number_a (note_of_output w.a)) (hosts_after_note (note_of_out A w) w) monitor
went w monitor k = go (next_output w.a) refl (each_known (Event.Out A) (note_of_out A w) w monitor refl k.0)
  where
    As : Option (List Bool) → Type 0
    As o = Shows never Held (goes_from w.number_a (note_of_message o)) (hosts_after_note (Note.Out A (note_of_message o)) w) monitor

    KnownAs : Option (List Bool) → Type 0
    KnownAs o = Shows never Known (goes_from w.number_a (note_of_message o)) (hosts_after_note (Note.Out A (note_of_message o)) w) monitor

    go : (o : Option (List Bool)) → next_output w.a ≡ o → KnownAs (next_output w.a) → As (next_output w.a)
    go None q did = subst As (sym q) (refl, k)
    go (Some m) q did = subst As (sym q) (known.0, (known.1, holding))
      where
        known : KnownAs (Some m)
        known = subst KnownAs q did

        l : Leaves w m
        l = leaves w m k.0.0.joined q

        now : Monitor
        now = after_record monitor ToImp w.number_a m

        next : Hosts
        next = hosts_after_note (Note.Out A (HostNote.Out m)) w

        more : OneMore w now
        more = one_more w monitor k ToImp w.number_a m (between_of w.number_a w.number_b w.number_a w.number_b ToImp m (leader_to w.number_b l.on) l.led refl (inl (refl, refl)))
            (alone (record_findings monitor ToImp w.number_a m) (none_passes (record_findings monitor ToImp w.number_a m ++ []) known.0))

        state : had_for w.number_b (after_next_output w.a) ≡ after_output l.on m (had_for w.number_b w.a)
        state = had-sent w.number_b w.a k.0.0.joined.stand.a ∙ ap (λ (o : Option (ℕ × List Bool)). after_next o (had_for w.number_b w.a)) l.next

        is : seen next ≡ goes_on l.on m (seen w)
        is =
            ap (λ (x : Subnet). (let y : Hosts = record w { a = after_next_output w.a; subnet = x } in seen y)) l.takes
            ∙ seen_with w k.0.0.joined.stand.differ l.on (Accepted m) (after_next_output w.a) w.b (after_output l.on m (had_for w.number_b w.a)) (had_for w.number_a w.b) state refl

        goes : GoesOut w monitor now l.on m
        goes = one_goes w monitor k m more l

        far : lives_at w.number_b w.number_a now.conn_tables ≡ lives_at w.number_b w.number_a monitor.conn_tables
        far = few_same w.number_b w.number_a monitor.conn_tables now.conn_tables (record_alike monitor ToImp w.number_a m w.number_b w.number_a (a_b w monitor k.0.0))

        line_is : line (seen next).this (seen next).going ≡ goes.going
        line_is = ap (λ (x : World). line x.this x.going) is ∙ goes.is

        back_is : line (seen next).that (seen next).coming ≡ line (seen w).that (seen w).coming
        back_is = ap (λ (x : World). line x.that x.coming) is

        -- it is not up
        quiet : up (had_for w.number_b w.a).peer.phase ≡ false → Fewer next now
        quiet u =
            let x = goes.few u in let y = goes.quiet u in let p = k.1.fewer.this in let q = k.1.fewer.that in
            of_on next now
            (subst (λ (xs : List Command). FewOn w.number_a w.number_b now.conn_tables xs (line (seen next).that (seen next).coming)) (sym line_is)
            (subst (λ (xs : List Command). FewOn w.number_a w.number_b now.conn_tables goes.going xs) (sym back_is)
            (goes.short, k.1.fewer.coming_short, omega (arith, x, p), omega (arith, far, y, q))))

        -- it is
        upright : up (had_for w.number_b w.a).peer.phase ≡ true → Fewer next now
        upright u =
            few_where_up next now known.1 more.unfilled more.open_books (subst (λ (xs : List Command). length xs ≤ 120) (sym line_is) goes.short)
            (subst (λ (xs : List Command). length xs ≤ 120) (sym back_is) k.1.fewer.coming_short)
            (ap (λ (x : PeerState). up x.peer.phase) state ∙ up_after (slot_at (had_for w.number_b w.a).slots l.on) l.on (had_for w.number_b w.a).peer ∙ u)

        fewer : Fewer next now
        fewer = by (up (had_for w.number_b w.a).peer.phase) refl
          where
            by : (x : Bool) → up (had_for w.number_b w.a).peer.phase ≡ x → Fewer next now
            by true e = upright e
            by false e = quiet e

        holding : Holding next now
        holding = record { tame = more.tame; fewer = fewer; unfilled = more.unfilled; open_books = more.open_books }

-- ---- it comes

-- the entries at the other interface after it, and the commands on the lines
record ComesIn (w : Hosts) (monitor : Monitor) (on : ℕ) (bits : List Bool) : Type 0 where
  pub going : List Command
  pub is : line (seen w).this (set_at on Delivered (seen w).going) ≡ going
  pub back : line (state_after_received bits (had_for w.number_a w.b)) (seen w).coming ≡ line (seen w).that (seen w).coming
  pub short : length going ≤ 120
  pub few : lives_at w.number_b w.number_a (after_record monitor FromImp w.number_b bits).conn_tables + 3 * others_in going ≤ 1240

module _ (w : Hosts) (monitor : Monitor) (k : Held w monitor) (m : List Bool) where
  abbrev bits : List Bool
  bits = from_host w.number_a m

  abbrev thereon : Monitor
  thereon = after_record monitor FromImp w.number_b (from_host w.number_a m)

  abbrev two : Both w monitor
  two = k.0.0

  near : Alike w.number_a w.number_b monitor.conn_tables thereon.conn_tables
  near = record_alike monitor FromImp w.number_b (from_host w.number_a m) w.number_a w.number_b (b_a w monitor two)

  module _ (on : ℕ) (led : leader_in (from_host w.number_a m) ≡ Ok (leader_to w.number_a on)) where
    abbrev came : Monitor
    came = after_in (sees monitor w.number_b) w.number_b w.number_a on

    then_is : thereon ≡ after_said came w.number_b w.number_a (turn_at came w.number_b w.number_a w.number_a false) true (message_in (from_host w.number_a m))
    then_is = in_is monitor w.number_b (from_host w.number_a m) (leader_to w.number_a on) false led (a_b w monitor two) refl refl

    heard_few : (x : Message) (cs : List Command) → message_in (from_host w.number_a m) ≡ Ok x → (message_class x ≡ MessageClass.Control → items_said x.text ≡ items_of cs None)
        → lives_at w.number_b w.number_a thereon.conn_tables ≤ lives_at w.number_b w.number_a monitor.conn_tables + 3 * others_in cs
    heard_few x cs reads is =
        few_here w.number_b w.number_a monitor.conn_tables thereon.conn_tables (3 * others_in cs) (b_a w monitor two) (λ me n d o. (k.1.tame.others me n o d).0) near
        (subst (λ (y : Monitor). length y.conn_tables.conns ≤ length monitor.conn_tables.conns + 3 * others_in cs) (sym then_is)
        (subst (λ (r : Result Message MessageFault). length (after_said came w.number_b w.number_a (turn_at came w.number_b w.number_a w.number_a false) true r).conn_tables.conns ≤ length monitor.conn_tables.conns + 3 * others_in cs) (sym reads)
        (subst (λ (conn_tables : SeenTables). length (after_said came w.number_b w.number_a (turn_at came w.number_b w.number_a w.number_a false) true (Ok x)).conn_tables.conns ≤ length conn_tables.conns + 3 * others_in cs) (in_tables (sees monitor w.number_b) w.number_b w.number_a on)
        (said_few came w.number_b w.number_a w.number_a false x cs is))))

  come_zero : leader_in (from_host w.number_a m) ≡ Ok (leader_to w.number_a 0) → transit_at w.subnet w.number_a w.number_b 0 ≡ Accepted m → ComesIn w monitor 0 (from_host w.number_a m)
  come_zero led e = record {
    going = [];
    is = none_left m c.cs heard (seen w) to_slots c.slot line_is;
    back = line_back m c.cs heard (seen w) to_slots c.slot line_is;
    short = omega arith;
    few = fewer;
  }
    where
      heard : PeerState
      heard = state_after_received (from_host w.number_a m) (had_for w.number_a w.b)

      c : Control w m
      c = control w m two.joined e

      fits : IsText 8 (bits_of_bytes (spellings c.cs))
      fits = control_text c.cs c.fits

      reads : message_in (from_host w.number_a m) ≡ Ok (control_of w.number_a c.cs)
      reads = reads_as w monitor two m 0 8 (bits_of_bytes (spellings c.cs)) fits (omega arith) c.is

      line_is : line (seen w).this (seen w).going ≡ c.cs
      line_is =
          ap (λ (x : LinkSlot). commands_out (not_come x ((seen w).going 0))) c.slot ∙ ap (λ (h : Holds). commands_out (not_come (Slot.Travelling m) h)) e
          ∙ ap commands_of c.is ∙ commands_read w.number_b c.cs two.joined.stand.fits_b c.fits

      to_slots : heard.slots ≡ (had_for w.number_a w.b).slots
      to_slots = received_slots w.number_a 0 (from_host w.number_a m) (had_for w.number_a w.b) led

      fewer : lives_at w.number_b w.number_a thereon.conn_tables + 3 * others_in [] ≤ 1240
      fewer =
          let x = heard_few 0 led (control_of w.number_a c.cs) c.cs reads (λ e. items c.cs c.fits.0) in
          let y = k.1.fewer.that in
          let z : others_in (line (seen w).this (seen w).going) ≡ others_in c.cs = ap others_in line_is in
          omega (arith, x, y, z)

  come_text : (on : ℕ) → (on == 0) ≡ false → leader_in (from_host w.number_a m) ≡ Ok (leader_to w.number_a on) → on < 256 → transit_at w.subnet w.number_a w.number_b on ≡ Accepted m → ComesIn w monitor on (from_host w.number_a m)
  come_text on z led small_link e = record {
    going = line (seen w).this (seen w).going;
    is = line_same on heard (seen w) z to_slots busy;
    back = back_same on heard (seen w) z to_slots busy;
    short = k.1.fewer.going_short;
    few = fewer;
  }
    where
      heard : PeerState
      heard = state_after_received (from_host w.number_a m) (had_for w.number_a w.b)

      c : Text w on m
      c = a_text w on m z two.joined e

      reads : message_in (from_host w.number_a m) ≡ Ok (message_with (leader_to w.number_a on) c.size c.text)
      reads = reads_as w monitor two m on c.size c.text c.fits small_link c.is

      to_slots : heard.slots ≡ (had_for w.number_a w.b).slots
      to_slots = received_slots w.number_a on (from_host w.number_a m) (had_for w.number_a w.b) led

      busy : is_quiet (had_for w.number_b w.a).slots ≡ false
      busy = not_quiet (had_for w.number_b w.a) on (own_seen w monitor two k.1.unfilled).used z (ap is_empty c.slot)

      fewer : lives_at w.number_b w.number_a thereon.conn_tables + 3 * others_in (line (seen w).this (seen w).going) ≤ 1240
      fewer =
          let x = heard_few on led (message_with (leader_to w.number_a on) c.size c.text) [] reads (λ e. absurd (text_reading (message_with (leader_to w.number_a on) c.size c.text) z e)) in
          let y = k.1.fewer.that in
          omega (arith, x, y)

  comes : (on : ℕ) → leader_in (from_host w.number_a m) ≡ Ok (leader_to w.number_a on) → on < 256 → transit_at w.subnet w.number_a w.number_b on ≡ Accepted m → ComesIn w monitor on (from_host w.number_a m)
  comes on led small_link e = go (on == 0) refl
    where
      go : (x : Bool) → (on == 0) ≡ x → ComesIn w monitor on (from_host w.number_a m)
      go false z = come_text on z led small_link e
      go true z =
          (subst (λ (j : ℕ). leader_in (from_host w.number_a m) ≡ Ok (leader_to w.number_a j) → transit_at w.subnet w.number_a w.number_b j ≡ Accepted m → ComesIn w monitor j (from_host w.number_a m)) (sym (eqb-true on 0 z)) come_zero) led e

arrived : (w : Hosts) (monitor : Monitor) (link : ℕ) → Held w monitor → Shows never Held (comes_to w.number_b (arriving w.number_a (transit_of A link w))) (hosts_after_note (note_of_delivery A link w) w) monitor
arrived w monitor link k = go (transit_of A link w) refl (each_known (Event.Deliver A link) (note_of_delivery A link w) w monitor refl k.0)
  where
    As : OnLink → Type 0
    As h = Shows never Held (comes_to w.number_b (arriving w.number_a h)) (hosts_after_note (note_of_coming A link (arriving w.number_a h) w) w) monitor

    KnownAs : OnLink → Type 0
    KnownAs h = Shows never Known (comes_to w.number_b (arriving w.number_a h)) (hosts_after_note (note_of_coming A link (arriving w.number_a h) w) w) monitor

    go : (h : OnLink) → transit_of A link w ≡ h → KnownAs (transit_of A link w) → As (transit_of A link w)
    go Free q did = subst As (sym q) (refl, k)
    go Delivered q did = subst As (sym q) (refl, k)
    go Lost q did = subst As (sym q) (refl, k)
    go Dead q did = subst As (sym q) (refl, k)
    go (Accepted m) q did = subst As (sym q) (known.0, (known.1, holding))
      where
        known : KnownAs (Accepted m)
        known = subst KnownAs q did

        r : Written w link m
        r = written w link m k.0.0.joined q

        led : leader_in (from_host w.number_a m) ≡ Ok (leader_to w.number_a link)
        led = comes_led w link m k.0.0.joined r

        now : Monitor
        now = after_record monitor FromImp w.number_b (from_host w.number_a m)

        next : Hosts
        next = hosts_after_note (Note.Came A link (note_of_bits (from_host w.number_a m) w.b)) w

        more : OneMore w now
        more = one_more w monitor k FromImp w.number_b (from_host w.number_a m) (between_of w.number_a w.number_b w.number_b w.number_a FromImp (from_host w.number_a m) (leader_to w.number_a link) led refl (inr (refl, refl)))
            (alone (record_findings monitor FromImp w.number_b (from_host w.number_a m)) (none_passes (record_findings monitor FromImp w.number_b (from_host w.number_a m) ++ []) known.0))

        is : seen next ≡ comes_on link (state_after_received (from_host w.number_a m) (had_for w.number_a w.b)) (seen w)
        is =
            seen_with w k.0.0.joined.stand.differ link Delivered w.a (after_note (note_of_bits (from_host w.number_a m) w.b) w.b) (had_for w.number_b w.a) (state_after_received (from_host w.number_a m) (had_for w.number_a w.b)) refl
            (came_to w link (from_host w.number_a m) k.0.0.joined led)

        come : ComesIn w monitor link (from_host w.number_a m)
        come = comes w monitor k m link led r.few q

        line_is : line (seen next).this (seen next).going ≡ come.going
        line_is = ap (λ (x : World). line x.this x.going) is ∙ come.is

        back_is : line (seen next).that (seen next).coming ≡ line (seen w).that (seen w).coming
        back_is = ap (λ (x : World). line x.that x.coming) is ∙ come.back

        here : lives_at w.number_a w.number_b now.conn_tables ≡ lives_at w.number_a w.number_b monitor.conn_tables
        here = few_same w.number_a w.number_b monitor.conn_tables now.conn_tables (record_alike monitor FromImp w.number_b (from_host w.number_a m) w.number_a w.number_b (b_a w monitor k.0.0))

        fewer : Fewer next now
        fewer =
            let p = k.1.fewer.this in
            of_on next now
            (subst (λ (xs : List Command). FewOn w.number_a w.number_b now.conn_tables xs (line (seen next).that (seen next).coming)) (sym line_is)
            (subst (λ (xs : List Command). FewOn w.number_a w.number_b now.conn_tables come.going xs) (sym back_is)
            (come.short, k.1.fewer.coming_short, omega (arith, here, p), come.few)))

        holding : Holding next now
        holding = record { tame = more.tame; fewer = fewer; unfilled = more.unfilled; open_books = more.open_books }

-- ---- it is lost, or its destination is dead

lose_with : (w : Hosts) (monitor : Monitor) (link : ℕ) (m : List Bool) (as_what : Holds) → Held w monitor → transit_of A link w ≡ Accepted m → not_come (Slot.Travelling m) as_what ≡ Some m
    → Holding (record w { subnet = with_transit w.subnet w.number_a w.number_b link as_what }) monitor
lose_with w monitor link m as_what k e l = record {
  tame = k.1.tame;
  fewer = of_on (record w { subnet = with_transit w.subnet w.number_a w.number_b link as_what }) monitor
      (fewer_on w.number_a w.number_b monitor.conn_tables monitor.conn_tables (line (seen w).this (seen w).going) (line (seen w).that (seen w).coming) (line (seen next).this (seen next).going) (line (seen next).that (seen next).coming)
      (ap (λ (x : World). line x.this x.going) is ∙ line_lost link m as_what (seen w) (out_slot w link m k.0.0.joined e) e l) (ap (λ (x : World). line x.that x.coming) is)
      (itself_most (lives_at w.number_a w.number_b monitor.conn_tables)) (itself_most (lives_at w.number_b w.number_a monitor.conn_tables)) (on_of w monitor k.1.fewer));
  unfilled = k.1.unfilled;
  open_books = k.1.open_books;
}
  where
    next : Hosts
    next = record w { subnet = with_transit w.subnet w.number_a w.number_b link as_what }

    is : seen (record w { subnet = with_transit w.subnet w.number_a w.number_b link as_what }) ≡ goes_lost link as_what (seen w)
    is = seen_with w k.0.0.joined.stand.differ link as_what w.a w.b (had_for w.number_b w.a) (had_for w.number_a w.b) refl refl

lost : (w : Hosts) (monitor : Monitor) (link : ℕ) → Held w monitor → Held (hosts_after_note (note_of_loss A link w) w) monitor
lost w monitor link k = go (transit_of A link w) refl (each_known (Event.Lose A link) (note_of_loss A link w) w monitor refl k.0).1
  where
    AsLost : OnLink → Type 0
    AsLost h = Held (hosts_after_note (if is_accepted h then Note.Lost A link else Note.Nothing A link Move.Lose) w) monitor

    KnownAs : OnLink → Type 0
    KnownAs h = Known (hosts_after_note (if is_accepted h then Note.Lost A link else Note.Nothing A link Move.Lose) w) monitor

    go : (h : OnLink) → transit_of A link w ≡ h → KnownAs (transit_of A link w) → AsLost (transit_of A link w)
    go Free q did = subst AsLost (sym q) k
    go Delivered q did = subst AsLost (sym q) k
    go Lost q did = subst AsLost (sym q) k
    go Dead q did = subst AsLost (sym q) k
    go (Accepted m) q did = subst AsLost (sym q) (subst KnownAs q did, lose_with w monitor link m Lost k q refl)

died : (w : Hosts) (monitor : Monitor) (link : ℕ) → Held w monitor → Held (hosts_after_note (note_of_death A link w) w) monitor
died w monitor link k = go (transit_of A link w) refl (each_known (Event.Dead A link) (note_of_death A link w) w monitor refl k.0).1
  where
    AsDead : OnLink → Type 0
    AsDead h = Held (hosts_after_note (if is_accepted h then Note.FoundDead A link else Note.Nothing A link Move.Dead) w) monitor

    KnownAs : OnLink → Type 0
    KnownAs h = Known (hosts_after_note (if is_accepted h then Note.FoundDead A link else Note.Nothing A link Move.Dead) w) monitor

    go : (h : OnLink) → transit_of A link w ≡ h → KnownAs (transit_of A link w) → AsDead (transit_of A link w)
    go Free q did = subst AsDead (sym q) k
    go Delivered q did = subst AsDead (sym q) k
    go Lost q did = subst AsDead (sym q) k
    go Dead q did = subst AsDead (sym q) k
    go (Accepted m) q did = subst AsDead (sym q) (subst KnownAs q did, lose_with w monitor link m Dead k q refl)

-- ---- it is answered

told : (w : Hosts) (monitor : Monitor) (link : ℕ) → Held w monitor → Shows never Held (comes_to w.number_a (answering w.number_b link (answer_kind (transit_of A link w)))) (hosts_after_note (note_of_answer A link w) w) monitor
told w monitor link k = go (answer_kind (transit_of A link w)) refl (each_known (Event.Answer A link) (note_of_answer A link w) w monitor refl k.0)
  where
    As : Option ℕ → Type 0
    As o = Shows never Held (comes_to w.number_a (answering w.number_b link o)) (hosts_after_note (note_of_answering A link (answering w.number_b link o) w) w) monitor

    KnownAs : Option ℕ → Type 0
    KnownAs o = Shows never Known (comes_to w.number_a (answering w.number_b link o)) (hosts_after_note (note_of_answering A link (answering w.number_b link o) w) w) monitor

    go : (o : Option ℕ) → answer_kind (transit_of A link w) ≡ o → KnownAs (answer_kind (transit_of A link w)) → As (answer_kind (transit_of A link w))
    go None q did = subst As (sym q) (refl, k)
    go (Some kind) q did = subst As (sym q) (known.0, (known.1, holding))
      where
        known : KnownAs (Some kind)
        known = subst KnownAs q did

        l : AnswerLed w link kind
        l = answer_leads w link kind k.0.0.joined q

        t : Reported_how w link kind
        t = reported_how w link kind k.0.0.joined q

        now : Monitor
        now = after_record monitor FromImp w.number_a (answer_bits kind w.number_b link)

        next : Hosts
        next = hosts_after_note (Note.Answered A link (note_of_bits (answer_bits kind w.number_b link) w.a)) w

        more : OneMore w now
        more = one_more w monitor k FromImp w.number_a (answer_bits kind w.number_b link)
            (between_of w.number_a w.number_b w.number_a w.number_b FromImp (answer_bits kind w.number_b link) (answer_leader kind w.number_b link) l.led refl (inl (refl, refl)))
            (alone (record_findings monitor FromImp w.number_a (answer_bits kind w.number_b link)) (none_passes (record_findings monitor FromImp w.number_a (answer_bits kind w.number_b link) ++ []) known.0))

        state : had_for w.number_b (after_note (note_of_bits (answer_bits kind w.number_b link) w.a) w.a) ≡ answer_comes link (answer_of kind) (had_for w.number_b w.a)
        state =
            ap (λ (n : HostNote). had_for w.number_b (after_note n w.a)) (noted-answer w.a (answer_bits kind w.number_b link) (answer_leader kind w.number_b link) k.0.0.joined.stand.a l.led l.is_one)
            ∙ had-changed w.number_b (answer_comes link (answer_of kind)) w.a k.0.0.joined.stand.a

        is : seen next ≡ is_told link (answer_of kind) (seen w)
        is =
            seen_with w k.0.0.joined.stand.differ link Free (after_note (note_of_bits (answer_bits kind w.number_b link) w.a) w.a) w.b (answer_comes link (answer_of kind) (had_for w.number_b w.a)) (had_for w.number_a w.b) state refl

        conn_tables : now.conn_tables ≡ next_number monitor.conn_tables
        conn_tables =
            ap (λ (x : Monitor). x.conn_tables) (answer_is monitor w.number_a (answer_bits kind w.number_b link) (answer_leader kind w.number_b link) l.led (b_a w monitor k.0.0) l.not_regular l.is_one)
            ∙ answer_tables (sees monitor w.number_a) kind w.number_a w.number_b link

        fewer : Fewer next now
        fewer =
            of_on next now
            (fewer_on w.number_a w.number_b monitor.conn_tables now.conn_tables (line (seen w).this (seen w).going) (line (seen w).that (seen w).coming) (line (seen next).this (seen next).going) (line (seen next).that (seen next).coming)
            (ap (λ (x : World). line x.this x.going) is ∙ line_reported link t.m (answer_of kind) t.h (seen w) t.slot t.is t.same) (ap (λ (x : World). line x.that x.coming) is)
            (same_most (lives_at w.number_a w.number_b now.conn_tables) (lives_at w.number_a w.number_b monitor.conn_tables) (ap (lives_at w.number_a w.number_b) conn_tables))
            (same_most (lives_at w.number_b w.number_a now.conn_tables) (lives_at w.number_b w.number_a monitor.conn_tables) (ap (lives_at w.number_b w.number_a) conn_tables)) (on_of w monitor k.1.fewer))

        holding : Holding next now
        holding = record { tame = more.tame; fewer = fewer; unfilled = more.unfilled; open_books = more.open_books }

sides : OfA never Held
sides = record { call = called; out = went; deliver = arrived; lose = lost; die = died; answer = told }

-- each event of the two
pub each_held : Steps never Held
each_held = both_sides never Held turn_held sides

-- ---- the beginning

pub held_begins : (a b : ℕ) → a ≢ b → a < 256 → b < 256 → Held (new_hosts a b) (new_monitor false)
held_begins a b d k l = (
  known_begins a b d k l,
  record {
    tame = tame_new a b;
    fewer = of_on (new_hosts a b) (new_monitor false)
        (subst (λ (xs : List Command). FewOn a b (new_monitor false).conn_tables xs (line first.that first.coming)) (sym (empty first.this first.going (new_had b)))
        (subst (λ (xs : List Command). FewOn a b (new_monitor false).conn_tables [] xs) (sym (empty first.that first.coming (new_had a)))
        (omega arith, omega arith, omega arith, omega arith)));
    unfilled = refl;
    open_books = refl;
  },
)
  where
    first : World
    first = seen (new_hosts a b)

    empty : (s : PeerState) (u : ℕ → Holds) → s ≡ new_state → line s u ≡ []
    empty s u e = ap (λ (x : LinkSlot). commands_out (not_come x (u 0))) (ap (λ (x : PeerState). slot_at x.slots 0) e ∙ slot_at-no_slots 0)
