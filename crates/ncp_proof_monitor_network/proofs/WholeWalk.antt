-- In the file of two hosts with the subnet between them nothing is found, by any rule: what is known of both is kept through
-- each event.
use Rattle.std.proofs.Common.{◌≡◌, ◌≢◌, ℕ, ◌<◌, ◌==◌, Bool, true, false, if◌then◌else◌, List, [], ◌∷◌, ◌++◌, length, All, Option, None, Some, Result, Ok, Err, filter, refl, sym, ap, ◌∙◌, subst, arith}
use Rattle.std.proofs.lemmas.Bool.{eqb-true}
use Rattle.ncp_numbers.specs.Bytes.{bits_of_bytes}
use Rattle.ncp_leader.specs.Leader.{leader_in}
use Rattle.ncp_leader.specs.Message.{Message, message_in, message_with}
use Rattle.ncp_wire.specs.declared.command.Command.{Command}
use Rattle.ncp_wire.specs.Spelling.{IsCommand, spellings}
use Rattle.ncp_slot.specs.declared.slot.Slot.{Slot}
use Rattle.ncp_slot.specs.Slot.{is_empty}
use Rattle.ncp_slot.specs.Slots.{LinkSlot, slot_at, is_quiet}
use Rattle.ncp_slot.proofs.Places.{slot_at-no_slots}
use Rattle.ncp_subnet.specs.Messages.{arriving, answering}
use Rattle.ncp_subnet.specs.Transit.{is_accepted, answer_kind}
use Rattle.ncp_subnet.specs.Ways.{OnLink}
use Rattle.ncp_subnet.specs.Subnet.{Subnet, transit_at, with_transit}
use Rattle.ncp_model.specs.Effect.{answer}
use Rattle.ncp_model.specs.Ends.{cut_in}
use Rattle.ncp_model.specs.Sending.{next_commands}
use Rattle.ncp_model.specs.declared.limits.TheConstants.{MAX_CONTROL}
use Rattle.ncp_proof_runs.proofs.HostRuns.{some_same}
use Rattle.ncp_peer.specs.PeerState.{PeerState, new_state, answer_comes}
use Rattle.ncp_peer.specs.Hearing.{answer_of, is_wrong_link}
use Rattle.ncp_host.specs.Host.{Host}
use Rattle.ncp_peer.specs.Output.{leader_to, message_to, control_message, text_message, output_by, after_next, after_output}
use Rattle.ncp_host.specs.Turns.{next_output, after_next_output}
use Rattle.ncp_transcript.specs.declared.input.Input.{Input}
use Rattle.ncp_transcript.specs.declared.call.Call.{Call}
use Rattle.ncp_transcript.specs.declared.note.HostNote.{HostNote}
use Rattle.ncp_transcript.specs.After.{after_note}
use Rattle.ncp_transcript.specs.Noting.{note_of_message, note_of_output, note_of_bits}
use Rattle.ncp_transcript.proofs.Saying.{noted_said}
use Rattle.ncp_transcript_two.specs.Subnet.{Holds, Free, Accepted, Delivered, Lost, Dead, set_at, from_host, answer_bits}
use Rattle.ncp_transcript_two.specs.World.{World, state_after_received}
use Rattle.ncp_transcript_two.specs.Tie.{AreCommands, IsText}
use Rattle.ncp_transcript_two.specs.Underway.{commands_of, not_come, commands_out}
use Rattle.ncp_transcript_two.specs.declared.side.Side.TheVariants.{A}
use Rattle.ncp_transcript_two.specs.declared.event.Event.{Event}
use Rattle.ncp_transcript_two.specs.declared.note.Move.{Move}
use Rattle.ncp_transcript_two.specs.declared.note.Note.{Note}
use Rattle.ncp_transcript_two.specs.Between.{Hosts, new_hosts, transit_of, hosts_after_note}
use Rattle.ncp_transcript_two.specs.Happening.{IsCalled, note_of_coming, note_of_answering, note_of_out, note_of_delivery, note_of_loss, note_of_death, note_of_answer}
use Rattle.ncp_transcript_two.specs.Seen.{had_for, seen}
use Rattle.ncp_transcript_two.proofs.Comings.{small}
use Rattle.ncp_transcript_two.proofs.OnePeer.{had-changed, had-sent, noted-answer}
use Rattle.ncp_transcript_two.proofs.SeenSteps.{seen_with}
use Rattle.ncp_transcript_two.proofs.Well.{cut-written}
use Rattle.ncp_transcript_two.proofs.Written.{read, control_text, answer_leader}
use Rattle.ncp_monitor.specs.declared.finding.Finding.{Finding}
use Rattle.ncp_monitor.specs.declared.monitor.Monitor.{Monitor}
use Rattle.ncp_monitor.specs.declared.view.View.{View}
use Rattle.ncp_interface.specs.declared.imp_direction.ImpDirection.TheVariants.{ToImp, FromImp}
use Rattle.ncp_monitor.specs.Tables.{view_in}
use Rattle.ncp_monitor.specs.Judged.{new_monitor, next_number, sees, fresh_out, monitor_after_out, turn_at, after_said, unsent_finding, record_findings, after_record}
use Rattle.ncp_monitor.specs.declared.phase.MessageContext.{MessageContext}
use Rattle.ncp_monitor.specs.ConnStates.{SeenTables, no_conn_tables}
use Rattle.ncp_monitor.specs.Messages.{judged_bits, rule_of_message}
use Rattle.ncp_monitor.specs.Views.{new_view}
use Rattle.ncp_monitor.specs.declared.finding.Rule.{Rule}
use Rattle.ncp_interface.specs.declared.sent_message.SentMessage.{SentMessage}
use Rattle.ncp_interface.specs.Slots.{is_of, busy_link}
use Rattle.ncp_leader.specs.declared.fault.MessageFault.{MessageFault}
use Rattle.ncp_monitor.proofs.Following.{out_is, answer_is}
use Rattle.ncp_monitor.proofs.Parted.{pass_parts}
use Rattle.ncp_monitor.proofs.Passing.{Pass}
use Rattle.ncp_proof_monitor.specs.Worlds.{comes_to, goes_from, world_file}
use Rattle.ncp_proof_monitor.proofs.Fresh.{OnLinks, not_quiet, sees_busy}
use Rattle.ncp_proof_monitor.proofs.Shown
use Rattle.ncp_proof_monitor.proofs.HostSlots.{call_noted}
use Rattle.ncp_proof_monitor.proofs.Laid.{weighs, fitting_all}
use Rattle.ncp_proof_monitor.proofs.Others.{other_leaves}
use Rattle.ncp_proof_monitor.proofs.PhaseSeen.{Seen}
use Rattle.ncp_proof_monitor_messages.proofs.AsRead.{control_of}
use Rattle.ncp_proof_monitor_messages.proofs.Arrivals.{line_lost, line_reported, is_told, goes_lost, comes_on, none_left, line_back, line_same, back_same}
use Rattle.ncp_proof_monitor_messages.proofs.Coming.{Control, control, Text, a_text, received_slots, came_to}
use Rattle.ncp_proof_monitor_messages.proofs.Quiet.{phase_quiet}
use Rattle.ncp_proof_monitor_messages.specs.Files.{findings_in, found_by, NothingFound}
use Rattle.ncp_proof_monitor_messages.proofs.Between.{Leaves, leaves, Written, written, comes_led, comes_near, AnswerLed, answer_leads}
use Rattle.ncp_proof_monitor_messages.proofs.Both.{Both, kept_by, control_said, out_slot, Reported_how, reported_how, each_step}
use Rattle.ncp_proof_monitor_messages.proofs.Both
use Rattle.ncp_proof_monitor_messages.proofs.Counts.{line}
use Rattle.ncp_proof_monitor_messages.proofs.Moves.{Keeps, goes_on, commands_read, line_zero, line_other, line_again}
use Rattle.ncp_proof_monitor_messages.proofs.OwnSide.{At, one_peer}
use Rattle.ncp_proof_monitor_messages.proofs.Sides.{OfA, both_sides}
use Rattle.ncp_proof_monitor_messages.proofs.Walk.{Shows, Steps, AllPass, all_pass, after_file}
use Rattle.ncp_proof_monitor_messages.proofs.Ways.{Comes_in, ways_in, Told, ways_answer}
use Rattle.ncp_proof_monitor_replies.proofs.BooksRecord.{record_reads, answer_tables}
use Rattle.ncp_proof_monitor_host.proofs.ShowsKept.{shows_busy}
use Rattle.ncp_proof_monitor_host.proofs.CarriesOn.{quiet_reports}
use Rattle.ncp_proof_monitor_host.proofs.FlowFile.{AtOwn, WentOut, own_called, own_went, own_came, own_elsewhere}
use Rattle.ncp_proof_monitor_host.proofs.FlowWalk.{AllSpoken}
use Rattle.ncp_proof_monitor_network.proofs.SessionInvariants.{SessionOf, SessionInvariants, Known, turn_known}
use Rattle.ncp_proof_monitor_host.proofs.FlowOut.{talks_begin}
use Rattle.ncp_proof_monitor_network.proofs.Sessions.{SessionInvariant, Floated, begins_session, floats_session, tables_session}
use Rattle.ncp_proof_monitor_network.proofs.ConsistentViews.{Afloat, with_float}
use Rattle.ncp_proof_monitor_network.proofs.Floats.{floats, floats_again, floats_text, floats_zero, floats_lost, floats_reported, floats_heard, floats_came, floats_out, floats_back, call_floats, none_floats, floated, floated_same}
use Rattle.ncp_proof_monitor_network.proofs.OwnBooks
use Rattle.ncp_proof_monitor_network.proofs.TheirTables

-- no finding passes
abbrev pub never : Finding → Bool
never finding = false

pub all_none : (found : List Finding) → found ≡ [] → Pass never (found ++ [])
all_none found e = subst (λ (xs : List Finding). Pass never (xs ++ [])) (sym e) refl

-- where all is known to be none, none is of these rules
pub none_of : (judged : Rule → Bool) (found : List Finding) → Pass never found → found_by judged found ≡ []
none_of judged [] p = refl
none_of judged (f ∷ found) p = absurd (cc p)

-- what is known of a host at its own interface
pub at_own : (me n : ℕ) (h : Host) (monitor : Monitor) → At me n h monitor → AllSpoken me h monitor → AtOwn (n ∷ []) me h monitor
at_own me n h monitor k t = record { holds = k.holds; followed = record { watches = k.watched; talks = t }; ready = k.ready }

module _ (w : Hosts) (monitor : Monitor) (k : Known w monitor) where
  abbrev a : ℕ
  a = w.number_a

  abbrev b : ℕ
  b = w.number_b

  abbrev s : PeerState
  s = had_for w.number_b w.a

  b_a : (w.number_b == w.number_a) ≡ false
  b_a = Both.b_a w monitor k.0

  a_b : (w.number_a == w.number_b) ≡ false
  a_b = Both.a_b w monitor k.0

  own_a : AtOwn (w.number_b ∷ []) w.number_a w.a monitor
  own_a = at_own w.number_a w.number_b w.a monitor k.0.at_a k.1.talks_a

  own_b : AtOwn (w.number_a ∷ []) w.number_b w.b monitor
  own_b = at_own w.number_b w.number_a w.b monitor k.0.at_b k.1.talks_b

-- ---- calls

called : (w : Hosts) (monitor : Monitor) (call : Call) (note : Note) → IsCalled A call note w → Known w monitor → Known (hosts_after_note note w) monitor
called w monitor call note n k = (did, subst (λ (x : Note). SessionInvariants (hosts_after_note x w) monitor) (sym n.said) now)
  where
    h : HostNote
    h = n.of_host

    did : Both (hosts_after_note note w) monitor
    did = (each_step (Event.Call A call) note w monitor n k.0).1

    after : Both (hosts_after_note (Note.Called A h) w) monitor
    after = subst (λ (x : Note). Both (hosts_after_note x w) monitor) n.said did

    keeps : Keeps (had_for w.number_b w.a) (had_for w.number_b (after_note h w.a))
    keeps = kept_by w.number_a w.number_b w.a h monitor k.0.joined.stand.a after.joined.stand.a (noted_said (Input.Call call) h w.a n.noted) (call_noted call h w.a n.noted) k.0.at_a

    own : AtOwn (w.number_b ∷ []) w.number_a (after_note h w.a) monitor
    own = own_called (w.number_b ∷ []) w.number_a w.a monitor call h n.noted n.fits (own_a w monitor k)

    now : SessionInvariants (hosts_after_note (Note.Called A h) w) monitor
    now = record {
      talks_a = own.followed.talks;
      talks_b = k.1.talks_b;
      parley = λ f r.
          subst (λ (cs : List Command). SessionOf w monitor cs (line (seen w).that (seen w).coming) (floats (had_for w.number_b (after_note h w.a)) (seen w).going) (floats (seen w).that (seen w).coming)) (sym (ap commands_out (keeps.line ((seen w).going 0))))
          (floats_session w.number_a w.number_b (view_in monitor.views w.number_a w.number_b) (view_in monitor.views w.number_b w.number_a) monitor.conn_tables (line (seen w).this (seen w).going) (line (seen w).that (seen w).coming)
          (floats (seen w).this (seen w).going) (floats (seen w).that (seen w).coming) (floats (had_for w.number_b (after_note h w.a)) (seen w).going) (floats (seen w).that (seen w).coming)
          (λ l. sym (call_floats w.number_b w.a h (seen w).going k.0.joined.stand.a after.joined.stand.a (noted_said (Input.Call call) h w.a n.noted) (call_noted call h w.a n.noted) k.0.at_a.holds l)) (λ l. refl) (k.1.parley f r));
    }

-- ---- a message is sent

module _ (w : Hosts) (monitor : Monitor) (k : Known w monitor) (m : List Bool) (full : (after_record monitor ToImp w.number_a m).full ≡ false) (room : (after_record monitor ToImp w.number_a m).conn_tables.full ≡ false)
    (none : record_findings monitor ToImp w.number_a m ≡ []) where
  open_before : monitor.full ≡ false
  open_before = (other_leaves w.number_b w.number_a ToImp m monitor (a_b w monitor k)).full full

  room_before : monitor.conn_tables.full ≡ false
  room_before = (record_reads monitor ToImp w.number_a m).room room

  abbrev theirs : View
  theirs = view_in monitor.views w.number_b w.number_a

  abbrev v : World
  v = seen w

  abbrev st : PeerState
  st = had_for w.number_b w.a

  p_seen : Seen st (view_in monitor.views w.number_a w.number_b)
  p_seen = Both.own_seen w monitor k.0 open_before

  -- with these commands on the line after it, and these texts
  abbrev GoneWith : List Command → Afloat → Type 0
  GoneWith going ht =
      SessionInvariant w.number_a w.number_b (view_in (after_record monitor ToImp w.number_a m).views w.number_a w.number_b) theirs (after_record monitor ToImp w.number_a m).conn_tables going (line (seen w).that (seen w).coming) ht (floats (seen w).that (seen w).coming)

  abbrev Gone : ℕ → Type 0
  Gone on = GoneWith (line (goes_on on m (seen w)).this (goes_on on m (seen w)).going) (floats (goes_on on m (seen w)).this (goes_on on m (seen w)).going)

  -- the texts that are out after it
  gone_with : (on : ℕ) (going : List Command) (ht : Afloat) → line (goes_on on m (seen w)).this (goes_on on m (seen w)).going ≡ going → ((l : ℕ) → floats (goes_on on m (seen w)).this (goes_on on m (seen w)).going l ≡ ht l) → GoneWith going ht → Gone on
  gone_with on going ht e f p =
      subst (λ (cs : List Command). GoneWith cs (floats (goes_on on m (seen w)).this (goes_on on m (seen w)).going)) (sym e)
      (floats_session w.number_a w.number_b (view_in (after_record monitor ToImp w.number_a m).views w.number_a w.number_b) theirs (after_record monitor ToImp w.number_a m).conn_tables going (line (seen w).that (seen w).coming) ht (floats (seen w).that (seen w).coming)
      (floats (goes_on on m (seen w)).this (goes_on on m (seen w)).going) (floats (seen w).that (seen w).coming) (λ l. sym (f l)) (λ l. refl) p)

  module _ (on : ℕ) (led : leader_in m ≡ Ok (leader_to w.number_b on)) (ready : output_by (slot_at st.slots on) w.number_b on st.peer ≡ Some m) where
    sent_again : (r : List Bool) → slot_at st.slots on ≡ Slot.Ready r → Gone on
    sent_again r q =
        let same : r ≡ m = some_same (ap (λ (x : LinkSlot). output_by x w.number_b on st.peer) (sym q) ∙ ready) in
        let is : slot_at st.slots on ≡ Slot.Ready m = q ∙ ap (λ (x : List Bool). Slot.Ready x) same in
        gone_with on (line v.this v.going) (floats v.this v.going) (line_again on m v is) (floats_again on m v is)
        (OwnBooks.again w.number_a w.number_b on m (slot_at st.slots on) st.peer monitor (b_a w monitor k) (a_b w monitor k) k.0.joined.stand.fits_a k.0.joined.stand.fits_b k.0.ways.sound.long led ready p_seen.stands.phased.known
        (λ f. (k.0.at_a.watched.follows f).agrees w.number_b st (Both.there w monitor k.0) on) full none room theirs (line v.this v.going) (line v.that v.coming) (floats v.this v.going) (floats v.that v.coming) (k.1.parley open_before room_before) (ap is_empty q))

    waits_on : {P : Type 0} → (r : List Bool) → slot_at st.slots on ≡ Slot.Travelling r → P
    waits_on r q = let nay : None ≡ Some m = ap (λ (x : LinkSlot). output_by x w.number_b on st.peer) (sym q) ∙ ready in absurd (cc)

    held_on : {P : Type 0} → (r : List Bool) → slot_at st.slots on ≡ Slot.Held r → P
    held_on r q = let nay : None ≡ Some m = ap (λ (x : LinkSlot). output_by x w.number_b on st.peer) (sym q) ∙ ready in absurd (cc)

  zero_goes : leader_in m ≡ Ok (leader_to w.number_b 0) → output_by (slot_at st.slots 0) w.number_b 0 st.peer ≡ Some m
      → Floated w.number_a w.number_b (busy_link w.number_a w.number_b (monitor_after_out (sees monitor w.number_a) w.number_a w.number_b 0 m).kept) (monitor_after_out (sees monitor w.number_a) w.number_a w.number_b 0 m).kept (floats v.this v.going) → Gone 0
  zero_goes led ready shows = by (slot_at st.slots 0) refl
    where
      by : (slot : LinkSlot) → slot_at st.slots 0 ≡ slot → Gone 0
      by (Slot.Ready r) q = sent_again 0 led ready r q
      by (Slot.Travelling r) q = waits_on 0 led ready r q
      by (Slot.Held r) q = held_on 0 led ready r q
      by Slot.Empty q =
          let cs : List Command = next_commands st.peer.phase.waiting in
          let c = control_said w.number_b cs m (ap (λ (x : LinkSlot). output_by x w.number_b 0 st.peer) (sym q) ∙ ready) in
          let each : All IsCommand cs = fitting_all MAX_CONTROL st.peer.phase.waiting (Both.is_ready w monitor k.0).fine.well.waiting in
          let fits : AreCommands cs = (each, weighs MAX_CONTROL st.peer.phase.waiting) in
          let reads : message_in m ≡ Ok (control_of w.number_b cs) = ap message_in c.0 ∙ read w.number_b 0 8 (bits_of_bytes (spellings cs)) k.0.joined.stand.fits_b (omega arith) (control_text cs fits) in
          let before : SessionOf w monitor [] (line v.that v.coming) (floats v.this v.going) (floats v.that v.coming) =
          subst (λ (xs : List Command). SessionOf w monitor xs (line v.that v.coming) (floats v.this v.going) (floats v.that v.coming)) (ap (λ (x : LinkSlot). commands_out (not_come x (v.going 0))) q) (k.1.parley open_before room_before) in
          gone_with 0 cs (floats v.this v.going) (line_zero m v ∙ ap commands_of c.0 ∙ commands_read w.number_b cs k.0.joined.stand.fits_b fits) (floats_zero m v)
          (OwnBooks.commands w.number_a w.number_b 0 m (slot_at st.slots 0) st.peer monitor (b_a w monitor k) (a_b w monitor k) k.0.joined.stand.fits_a k.0.joined.stand.fits_b k.0.ways.sound.long led ready p_seen.stands.phased.known
          (λ f. (k.0.at_a.watched.follows f).agrees w.number_b st (Both.there w monitor k.0) 0) full none room theirs [] (line v.that v.coming) (floats v.this v.going) (floats v.that v.coming) before cs (ap is_empty q) each shows reads)

  other_goes : (on : ℕ) → (on == 0) ≡ false → is_wrong_link on ≡ false → leader_in m ≡ Ok (leader_to w.number_b on) → output_by (slot_at st.slots on) w.number_b on st.peer ≡ Some m → Gone on
  other_goes on z right led ready = by (slot_at st.slots on) refl
    where
      by_text : (o : Option (ℕ × List Bool)) → answer (cut_in on st.peer.ends) ≡ o → text_message w.number_b on o ≡ Some m → slot_at st.slots on ≡ Slot.Empty → Gone on
      by_text None f e q = absurd (cc)
      by_text (Some t) f e q =
          let fits : IsText t.0 t.1 = cut-written on st.peer.ends t (Both.is_ready w monitor k.0).fine.good (Both.is_ready w monitor k.0).fine.well.ends f in
          let is : message_to w.number_b on t.0 t.1 ≡ m = cc in
          let reads : message_in m ≡ Ok (message_with (leader_to w.number_b on) t.0 t.1) = ap message_in (sym is) ∙ read w.number_b on t.0 t.1 k.0.joined.stand.fits_b (small on right) fits in
          gone_with on (line v.this v.going) (with_float on (Some (t.0, length t.1)) (floats v.this v.going)) (line_other on m v z) (floats_text on m v (message_with (leader_to w.number_b on) t.0 t.1) z reads)
          (OwnBooks.text w.number_a w.number_b on m (slot_at st.slots on) st.peer monitor (b_a w monitor k) (a_b w monitor k) k.0.joined.stand.fits_a k.0.joined.stand.fits_b k.0.ways.sound.long led ready p_seen.stands.phased.known
          (λ g. (k.0.at_a.watched.follows g).agrees w.number_b st (Both.there w monitor k.0) on) full none room theirs (line v.this v.going) (line v.that v.coming) (floats v.this v.going) (floats v.that v.coming) (k.1.parley open_before room_before) t.0 t.1 (ap is_empty q) right z
          (none_floats v.this v.going on (λ x. ap is_empty q)) reads)

      by : (slot : LinkSlot) → slot_at st.slots on ≡ slot → Gone on
      by (Slot.Ready r) q = sent_again on led ready r q
      by (Slot.Travelling r) q = waits_on on led ready r q
      by (Slot.Held r) q = held_on on led ready r q
      by Slot.Empty q =
          by_text (answer (cut_in on st.peer.ends)) refl
          (sym (ap (λ (x : Bool). if x then control_message w.number_b (next_commands st.peer.phase.waiting) else text_message w.number_b on (answer (cut_in on st.peer.ends))) z) ∙ ap (λ (x : LinkSlot). output_by x w.number_b on st.peer) (sym q) ∙ ready) q

  module _ (after : Both (hosts_after_note (Note.Out A (HostNote.Out m)) w) (after_record monitor ToImp w.number_a m)) where
    abbrev next : Hosts
    next = hosts_after_note (Note.Out A (HostNote.Out m)) w

    abbrev now : Monitor
    now = after_record monitor ToImp w.number_a m

    abbrev sent : PeerState
    sent = had_for w.number_b next.a

    -- what is kept of its messages after it shows which of its texts are out
    shown : leader_in m ≡ Ok (leader_to w.number_b 0) → sent ≡ after_output 0 m st
        → Floated w.number_a w.number_b (busy_link w.number_a w.number_b (monitor_after_out (sees monitor w.number_a) w.number_a w.number_b 0 m).kept) (monitor_after_out (sees monitor w.number_a) w.number_a w.number_b 0 m).kept (floats v.this v.going)
    shown led is =
        floated_same w.number_a w.number_b (busy_link w.number_a w.number_b A.kept) A.kept (floats sent (goes_on 0 m v).going) (floats v.this v.going)
        (λ l. ap (λ (x : PeerState). floats x (goes_on 0 m v).going l) is ∙ floats_zero m v l)
        (subst (λ (ks : List SentMessage). Floated w.number_a w.number_b (busy_link w.number_a w.number_b ks) ks (floats sent (goes_on 0 m v).going)) kept
        (floated w.number_a w.number_b now.kept sent (goes_on 0 m v).going (shows_busy w.number_a w.number_b now.kept sent.slots agrees) (sees_busy w.number_a w.number_b now.kept sent agrees used) (λ q l d. quiet_reports sent.slots used q l d)))
      where
        A : Monitor
        A = monitor_after_out (sees monitor w.number_a) w.number_a w.number_b 0 m

        agrees : (on : ℕ) → Shown.Shows (filter (is_of w.number_a w.number_b on) now.kept) (slot_at sent.slots on)
        agrees on = (after.at_a.watched.follows full).agrees w.number_b sent (Both.there next now after) on

        used : OnLinks sent
        used = (Both.own_seen next now after full).used

        said : (x : Monitor) (context : MessageContext) (fresh : Bool) (r : Result Message MessageFault) → (after_said x w.number_a w.number_b context fresh r).kept ≡ x.kept
        said x context true (Ok y) = refl
        said x context false (Ok y) = refl
        said x context fresh (Err f) = refl

        kept : now.kept ≡ A.kept
        kept =
            ap (λ (x : Monitor). x.kept) (out_is monitor w.number_a w.number_b 0 m led (b_a w monitor k))
            ∙ said A (turn_at A w.number_a w.number_b w.number_a true) (fresh_out (sees monitor w.number_a) w.number_a w.number_b 0 m) (message_in m)

    one_goes : (l : Leaves w m) → sent ≡ after_output l.on m st → Gone l.on
    one_goes l = go (l.on == 0) refl
      where
        Went : ℕ → Type 0
        Went j = leader_in m ≡ Ok (leader_to w.number_b j) → output_by (slot_at st.slots j) w.number_b j st.peer ≡ Some m → sent ≡ after_output j m st → Gone j

        go : (x : Bool) → (l.on == 0) ≡ x → sent ≡ after_output l.on m st → Gone l.on
        go true z is = subst Went (sym (eqb-true l.on 0 z)) (λ led ready e. zero_goes led ready (shown led e)) l.led l.ready is
        go false z is = other_goes l.on z l.right l.led l.ready

went : (w : Hosts) (monitor : Monitor) → Known w monitor → Shows never Known (goes_from w.number_a (note_of_output w.a)) (hosts_after_note (note_of_out A w) w) monitor
went w monitor k = go (next_output w.a) refl (each_step (Event.Out A) (note_of_out A w) w monitor refl k.0).1
  where
    As : Option (List Bool) → Type 0
    As o = Shows never Known (goes_from w.number_a (note_of_message o)) (hosts_after_note (Note.Out A (note_of_message o)) w) monitor

    BothAs : Option (List Bool) → Type 0
    BothAs o = Both (hosts_after_note (Note.Out A (note_of_message o)) w) (after_file monitor (goes_from w.number_a (note_of_message o)))

    go : (o : Option (List Bool)) → next_output w.a ≡ o → BothAs (next_output w.a) → As (next_output w.a)
    go None q did = subst As (sym q) (refl, k)
    go (Some m) q did = subst As (sym q) (all_none (record_findings monitor ToImp w.number_a m) out.none, (after, now))
      where
        l : Leaves w m
        l = leaves w m k.0.joined q

        after : Both (hosts_after_note (Note.Out A (HostNote.Out m)) w) (after_record monitor ToImp w.number_a m)
        after = subst BothAs q did

        out : WentOut (w.number_b ∷ []) w.number_a w.a monitor m
        out = own_went (w.number_b ∷ []) w.number_a w.a monitor m k.0.joined.stand.fits_a (one_peer w.number_a w.number_b (b_a w monitor k)) q (own_a w monitor k)

        far_own : AtOwn (w.number_a ∷ []) w.number_b w.b (after_record monitor ToImp w.number_a m)
        far_own = own_elsewhere (w.number_a ∷ []) w.number_b w.b monitor w.number_a ToImp m (a_b w monitor k) (own_b w monitor k)

        state : had_for w.number_b (after_next_output w.a) ≡ after_output l.on m (had_for w.number_b w.a)
        state = had-sent w.number_b w.a k.0.joined.stand.a ∙ ap (λ (o : Option (ℕ × List Bool)). after_next o (had_for w.number_b w.a)) l.next

        is : seen (hosts_after_note (Note.Out A (HostNote.Out m)) w) ≡ goes_on l.on m (seen w)
        is =
            ap (λ (x : Subnet). (let y : Hosts = record w { a = after_next_output w.a; subnet = x } in seen y)) l.takes
            ∙ seen_with w k.0.joined.stand.differ l.on (Accepted m) (after_next_output w.a) w.b (after_output l.on m (had_for w.number_b w.a)) (had_for w.number_a w.b) state refl

        far : view_in (after_record monitor ToImp w.number_a m).views w.number_b w.number_a ≡ view_in monitor.views w.number_b w.number_a
        far = (other_leaves w.number_b w.number_a ToImp m monitor (a_b w monitor k)).views w.number_a k.0.joined.stand.fits_a

        next : Hosts
        next = hosts_after_note (Note.Out A (HostNote.Out m)) w

        spoken : (after_record monitor ToImp w.number_a m).full ≡ false → (after_record monitor ToImp w.number_a m).conn_tables.full ≡ false
            → SessionOf w (after_record monitor ToImp w.number_a m) (line (seen next).this (seen next).going) (line (seen next).that (seen next).coming) (floats (seen next).this (seen next).going) (floats (seen next).that (seen next).coming)
        spoken f r =
            subst (λ (x : World). SessionOf w (after_record monitor ToImp w.number_a m) (line x.this x.going) (line x.that x.coming) (floats x.this x.going) (floats x.that x.coming)) (sym is)
            (subst (λ (x : View). SessionInvariant w.number_a w.number_b (view_in (after_record monitor ToImp w.number_a m).views w.number_a w.number_b) x (after_record monitor ToImp w.number_a m).conn_tables
            (line (goes_on l.on m (seen w)).this (goes_on l.on m (seen w)).going) (line (seen w).that (seen w).coming) (floats (goes_on l.on m (seen w)).this (goes_on l.on m (seen w)).going) (floats (seen w).that (seen w).coming)) (sym far)
            (one_goes w monitor k m f r out.none after l state))

        now : SessionInvariants (hosts_after_note (Note.Out A (HostNote.Out m)) w) (after_record monitor ToImp w.number_a m)
        now = record { talks_a = out.own.followed.talks; talks_b = far_own.followed.talks; parley = spoken }

-- ---- it comes

-- the findings in it, and the facts after it
record Come (w : Hosts) (monitor : Monitor) (on : ℕ) (bits : List Bool) : Type 0 where
  none : record_findings monitor FromImp w.number_b bits ≡ []
  parley : monitor.full ≡ false → (after_record monitor FromImp w.number_b bits).conn_tables.full ≡ false
      → SessionInvariant w.number_a w.number_b (view_in monitor.views w.number_a w.number_b) (view_in (after_record monitor FromImp w.number_b bits).views w.number_b w.number_a) (after_record monitor FromImp w.number_b bits).conn_tables
      (line (seen w).this (set_at on Delivered (seen w).going)) (line (state_after_received bits (had_for w.number_a w.b)) (seen w).coming)
      (floats (seen w).this (set_at on Delivered (seen w).going)) (floats (state_after_received bits (had_for w.number_a w.b)) (seen w).coming)

module _ (w : Hosts) (monitor : Monitor) (k : Known w monitor) (m : List Bool) where
  -- with these on the lines
  abbrev Came : List Bool → List Command → List Command → Afloat → Afloat → Type 0
  Came bits =
      SessionInvariant w.number_a w.number_b (view_in monitor.views w.number_a w.number_b) (view_in (after_record monitor FromImp w.number_b bits).views w.number_b w.number_a) (after_record monitor FromImp w.number_b bits).conn_tables

  came_with : (bits : List Bool) (hl kl gl ll : List Command) (ht kt hu ku : Afloat) → hl ≡ gl → kl ≡ ll → ((l : ℕ) → hu l ≡ ht l) → ((l : ℕ) → ku l ≡ kt l) → Came bits gl ll ht kt → Came bits hl kl hu ku
  came_with bits hl kl gl ll ht kt hu ku d e f g p =
      subst (λ (xs : List Command). Came bits xs kl hu ku) (sym d)
      (subst (λ (xs : List Command). Came bits gl xs hu ku) (sym e)
      (floats_session w.number_a w.number_b (view_in monitor.views w.number_a w.number_b) (view_in (after_record monitor FromImp w.number_b bits).views w.number_b w.number_a) (after_record monitor FromImp w.number_b bits).conn_tables gl ll ht kt hu ku (λ l. sym (f l)) (λ l. sym (g l)) p))

  come_zero : leader_in (from_host w.number_a m) ≡ Ok (leader_to w.number_a 0) → transit_at w.subnet w.number_a w.number_b 0 ≡ Accepted m → unsent_finding (sees monitor w.number_b) w.number_b w.number_a 0 (from_host w.number_a m) ≡ None
      → Pass phase_quiet (record_findings monitor FromImp w.number_b (from_host w.number_a m)) → Come w monitor 0 (from_host w.number_a m)
  come_zero led e sent quiet = record {
    none = TheirTables.commands_none w.number_b w.number_a 0 (from_host w.number_a m) (control_of w.number_a c.cs) monitor (a_b w monitor k) k.0.joined.stand.fits_b k.0.joined.stand.fits_a k.0.ways.sound.long led reads laid sent quiet
        (view_in monitor.views w.number_a w.number_b) c.cs back ht kt c.fits.0 refl before (a_b w monitor k);
    parley = λ f room.
        came_with (from_host w.number_a m) (line (seen w).this (set_at 0 Delivered (seen w).going)) (line heard (seen w).coming) [] back ht kt (floats (seen w).this (set_at 0 Delivered (seen w).going)) (floats heard (seen w).coming)
        (none_left m c.cs heard (seen w) to_slots c.slot line_is) (line_back m c.cs heard (seen w) to_slots c.slot line_is) (floats_heard (seen w)) (floats_back heard (had_for w.number_a w.b) (seen w).coming to_slots)
        (TheirTables.commands_after w.number_b w.number_a 0 (from_host w.number_a m) (control_of w.number_a c.cs) monitor (a_b w monitor k) k.0.joined.stand.fits_b k.0.joined.stand.fits_a k.0.ways.sound.long led reads laid sent quiet
        (view_in monitor.views w.number_a w.number_b) c.cs back ht kt c.fits.0 refl before (a_b w monitor k) f room);
  }
    where
      heard : PeerState
      heard = state_after_received (from_host w.number_a m) (had_for w.number_a w.b)

      back : List Command
      back = line (seen w).that (seen w).coming

      ht : Afloat
      ht = floats (seen w).this (seen w).going

      kt : Afloat
      kt = floats (seen w).that (seen w).coming

      c : Control w m
      c = control w m k.0.joined e

      fits : IsText 8 (bits_of_bytes (spellings c.cs))
      fits = control_text c.cs c.fits

      reads : message_in (from_host w.number_a m) ≡ Ok (control_of w.number_a c.cs)
      reads = Both.reads_as w monitor k.0 m 0 8 (bits_of_bytes (spellings c.cs)) fits (omega arith) c.is

      laid : rule_of_message (message_in (from_host w.number_a m)) 0 (judged_bits (message_in (from_host w.number_a m)) (from_host w.number_a m)) ≡ None
      laid = Both.laid_on w monitor k.0 m 0 8 (bits_of_bytes (spellings c.cs)) fits (omega arith) c.is c.slot

      line_is : line (seen w).this (seen w).going ≡ c.cs
      line_is =
          ap (λ (x : LinkSlot). commands_out (not_come x ((seen w).going 0))) c.slot ∙ ap (λ (h : Holds). commands_out (not_come (Slot.Travelling m) h)) e
          ∙ ap commands_of c.is ∙ commands_read w.number_b c.cs k.0.joined.stand.fits_b c.fits

      to_slots : heard.slots ≡ (had_for w.number_a w.b).slots
      to_slots = received_slots w.number_a 0 (from_host w.number_a m) (had_for w.number_a w.b) led

      before : monitor.full ≡ false → monitor.conn_tables.full ≡ false → SessionOf w monitor c.cs back ht kt
      before f r = subst (λ (xs : List Command). SessionOf w monitor xs back ht kt) line_is (k.1.parley f r)

  come_text : (on : ℕ) → (on == 0) ≡ false → leader_in (from_host w.number_a m) ≡ Ok (leader_to w.number_a on) → on < 256 → transit_at w.subnet w.number_a w.number_b on ≡ Accepted m
      → unsent_finding (sees monitor w.number_b) w.number_b w.number_a on (from_host w.number_a m) ≡ None → Pass phase_quiet (record_findings monitor FromImp w.number_b (from_host w.number_a m)) → Come w monitor on (from_host w.number_a m)
  come_text on z led few e sent quiet = record {
    none = TheirTables.text_none w.number_b w.number_a on (from_host w.number_a m) (message_with (leader_to w.number_a on) c.size c.text) monitor (a_b w monitor k) k.0.joined.stand.fits_b k.0.joined.stand.fits_a k.0.ways.sound.long led reads laid sent quiet
        (view_in monitor.views w.number_a w.number_b) going back ht kt c.right z out k.1.parley;
    parley = λ f room.
        came_with (from_host w.number_a m) (line (seen w).this (set_at on Delivered (seen w).going)) (line heard (seen w).coming) going back (with_float on None ht) kt
        (floats (seen w).this (set_at on Delivered (seen w).going)) (floats heard (seen w).coming)
        (line_same on heard (seen w) z to_slots (busy f)) (back_same on heard (seen w) z to_slots (busy f)) (floats_came on m (seen w) c.slot) (floats_back heard (had_for w.number_a w.b) (seen w).coming to_slots)
        (TheirTables.text_after w.number_b w.number_a on (from_host w.number_a m) (message_with (leader_to w.number_a on) c.size c.text) monitor (a_b w monitor k) k.0.joined.stand.fits_b k.0.joined.stand.fits_a k.0.ways.sound.long led reads laid sent quiet
        (view_in monitor.views w.number_a w.number_b) going back ht kt c.right z out k.1.parley (a_b w monitor k) f room);
  }
    where
      heard : PeerState
      heard = state_after_received (from_host w.number_a m) (had_for w.number_a w.b)

      going : List Command
      going = line (seen w).this (seen w).going

      back : List Command
      back = line (seen w).that (seen w).coming

      ht : Afloat
      ht = floats (seen w).this (seen w).going

      kt : Afloat
      kt = floats (seen w).that (seen w).coming

      c : Text w on m
      c = a_text w on m z k.0.joined e

      reads : message_in (from_host w.number_a m) ≡ Ok (message_with (leader_to w.number_a on) c.size c.text)
      reads = Both.reads_as w monitor k.0 m on c.size c.text c.fits few c.is

      -- as it was sent
      out : ht on ≡ Some (c.size, length c.text)
      out = floats_out (seen w).this (seen w).going on m (message_with (leader_to w.number_b on) c.size c.text) z c.slot e (ap message_in c.is ∙ read w.number_b on c.size c.text k.0.joined.stand.fits_b few c.fits)

      laid : rule_of_message (message_in (from_host w.number_a m)) on (judged_bits (message_in (from_host w.number_a m)) (from_host w.number_a m)) ≡ None
      laid = Both.laid_on w monitor k.0 m on c.size c.text c.fits few c.is c.slot

      to_slots : heard.slots ≡ (had_for w.number_a w.b).slots
      to_slots = received_slots w.number_a on (from_host w.number_a m) (had_for w.number_a w.b) led

      busy : monitor.full ≡ false → is_quiet (had_for w.number_b w.a).slots ≡ false
      busy f = not_quiet (had_for w.number_b w.a) on (Both.own_seen w monitor k.0 f).used z (ap is_empty c.slot)

  comes : (on : ℕ) → leader_in (from_host w.number_a m) ≡ Ok (leader_to w.number_a on) → on < 256 → transit_at w.subnet w.number_a w.number_b on ≡ Accepted m
      → unsent_finding (sees monitor w.number_b) w.number_b w.number_a on (from_host w.number_a m) ≡ None → Pass phase_quiet (record_findings monitor FromImp w.number_b (from_host w.number_a m)) → Come w monitor on (from_host w.number_a m)
  comes on led few e sent quiet = go (on == 0) refl
    where
      go : (x : Bool) → (on == 0) ≡ x → Come w monitor on (from_host w.number_a m)
      go false z = come_text on z led few e sent quiet
      go true z =
          (subst (λ (j : ℕ). leader_in (from_host w.number_a m) ≡ Ok (leader_to w.number_a j) → transit_at w.subnet w.number_a w.number_b j ≡ Accepted m → unsent_finding (sees monitor w.number_b) w.number_b w.number_a j (from_host w.number_a m) ≡ None
          → Come w monitor j (from_host w.number_a m)) (sym (eqb-true on 0 z)) (λ l t u. come_zero l t u quiet)) led e sent

arrived : (w : Hosts) (monitor : Monitor) (link : ℕ) → Known w monitor → Shows never Known (comes_to w.number_b (arriving w.number_a (transit_of A link w))) (hosts_after_note (note_of_delivery A link w) w) monitor
arrived w monitor link k = go (transit_of A link w) refl (each_step (Event.Deliver A link) (note_of_delivery A link w) w monitor refl k.0)
  where
    As : OnLink → Type 0
    As h = Shows never Known (comes_to w.number_b (arriving w.number_a h)) (hosts_after_note (note_of_coming A link (arriving w.number_a h) w) w) monitor

    BothAs : OnLink → Type 0
    BothAs h = Shows phase_quiet Both (comes_to w.number_b (arriving w.number_a h)) (hosts_after_note (note_of_coming A link (arriving w.number_a h) w) w) monitor

    go : (h : OnLink) → transit_of A link w ≡ h → BothAs (transit_of A link w) → As (transit_of A link w)
    go Free q did = subst As (sym q) (refl, k)
    go Delivered q did = subst As (sym q) (refl, k)
    go Lost q did = subst As (sym q) (refl, k)
    go Dead q did = subst As (sym q) (refl, k)
    go (Accepted m) q did = subst As (sym q) (all_none (record_findings monitor FromImp w.number_b (from_host w.number_a m)) come.none, (after.1, now))
      where
        after : BothAs (Accepted m)
        after = subst BothAs q did

        r : Written w link m
        r = written w link m k.0.joined q

        led : leader_in (from_host w.number_a m) ≡ Ok (leader_to w.number_a link)
        led = comes_led w link m k.0.joined r

        way : Comes_in w.number_a w.number_b link (from_host w.number_a m) w.subnet monitor
        way = ways_in w.number_a w.number_b link m (from_host w.number_a m) w.subnet monitor k.0.joined.stand.differ k.0.joined.stand.fits_a k.0.joined.stand.fits_b led q (comes_near w link m r) k.0.ways

        quiet : Pass phase_quiet (record_findings monitor FromImp w.number_b (from_host w.number_a m))
        quiet = (pass_parts phase_quiet (record_findings monitor FromImp w.number_b (from_host w.number_a m)) [] after.0).0

        come : Come w monitor link (from_host w.number_a m)
        come = comes w monitor k m link led r.few q way.sent quiet

        is : seen (hosts_after_note (Note.Came A link (note_of_bits (from_host w.number_a m) w.b)) w) ≡ comes_on link (state_after_received (from_host w.number_a m) (had_for w.number_a w.b)) (seen w)
        is =
            seen_with w k.0.joined.stand.differ link Delivered w.a (after_note (note_of_bits (from_host w.number_a m) w.b) w.b) (had_for w.number_b w.a) (state_after_received (from_host w.number_a m) (had_for w.number_a w.b)) refl
            (came_to w link (from_host w.number_a m) k.0.joined led)

        far : view_in (after_record monitor FromImp w.number_b (from_host w.number_a m)).views w.number_a w.number_b ≡ view_in monitor.views w.number_a w.number_b
        far = (other_leaves w.number_a w.number_b FromImp (from_host w.number_a m) monitor (b_a w monitor k)).views w.number_b k.0.joined.stand.fits_b

        open_before : (after_record monitor FromImp w.number_b (from_host w.number_a m)).full ≡ false → monitor.full ≡ false
        open_before f = (other_leaves w.number_a w.number_b FromImp (from_host w.number_a m) monitor (b_a w monitor k)).full f

        near_own : AtOwn (w.number_a ∷ []) w.number_b (after_note (note_of_bits (from_host w.number_a m) w.b) w.b) (after_record monitor FromImp w.number_b (from_host w.number_a m))
        near_own = own_came (w.number_a ∷ []) w.number_b w.b monitor (from_host w.number_a m) (note_of_bits (from_host w.number_a m) w.b) k.0.joined.stand.fits_b (one_peer w.number_b w.number_a (a_b w monitor k)) refl (own_b w monitor k)

        far_own : AtOwn (w.number_b ∷ []) w.number_a w.a (after_record monitor FromImp w.number_b (from_host w.number_a m))
        far_own = own_elsewhere (w.number_b ∷ []) w.number_a w.a monitor w.number_b FromImp (from_host w.number_a m) (b_a w monitor k) (own_a w monitor k)

        next : Hosts
        next = hosts_after_note (Note.Came A link (note_of_bits (from_host w.number_a m) w.b)) w

        spoken : (after_record monitor FromImp w.number_b (from_host w.number_a m)).full ≡ false → (after_record monitor FromImp w.number_b (from_host w.number_a m)).conn_tables.full ≡ false
            → SessionOf w (after_record monitor FromImp w.number_b (from_host w.number_a m)) (line (seen next).this (seen next).going) (line (seen next).that (seen next).coming) (floats (seen next).this (seen next).going) (floats (seen next).that (seen next).coming)
        spoken f room =
            subst (λ (x : World). SessionOf w (after_record monitor FromImp w.number_b (from_host w.number_a m)) (line x.this x.going) (line x.that x.coming) (floats x.this x.going) (floats x.that x.coming)) (sym is)
            (subst (λ (x : View). SessionInvariant w.number_a w.number_b x (view_in (after_record monitor FromImp w.number_b (from_host w.number_a m)).views w.number_b w.number_a) (after_record monitor FromImp w.number_b (from_host w.number_a m)).conn_tables
            (line (seen w).this (set_at link Delivered (seen w).going)) (line (state_after_received (from_host w.number_a m) (had_for w.number_a w.b)) (seen w).coming)
            (floats (seen w).this (set_at link Delivered (seen w).going)) (floats (state_after_received (from_host w.number_a m) (had_for w.number_a w.b)) (seen w).coming)) (sym far) (come.parley (open_before f) room))

        now : SessionInvariants (hosts_after_note (Note.Came A link (note_of_bits (from_host w.number_a m) w.b)) w) (after_record monitor FromImp w.number_b (from_host w.number_a m))
        now = record {
          talks_a = far_own.followed.talks;
          talks_b = near_own.followed.talks;
          parley = spoken;
        }

-- ---- it is lost, or its destination is dead

lose_with : (w : Hosts) (monitor : Monitor) (link : ℕ) (m : List Bool) (as_what : Holds) → Known w monitor → transit_of A link w ≡ Accepted m → not_come (Slot.Travelling m) as_what ≡ Some m
    → SessionInvariants (record w { subnet = with_transit w.subnet w.number_a w.number_b link as_what }) monitor
lose_with w monitor link m as_what k e l = record {
  talks_a = k.1.talks_a;
  talks_b = k.1.talks_b;
  parley = λ f r.
      subst (λ (x : World). SessionOf w monitor (line x.this x.going) (line x.that x.coming) (floats x.this x.going) (floats x.that x.coming)) (sym is)
      (subst (λ (xs : List Command). SessionOf w monitor xs (line (seen w).that (seen w).coming) (floats (seen w).this (set_at link as_what (seen w).going)) (floats (seen w).that (seen w).coming)) (sym (line_lost link m as_what (seen w) (out_slot w link m k.0.joined e) e l))
      (floats_session w.number_a w.number_b (view_in monitor.views w.number_a w.number_b) (view_in monitor.views w.number_b w.number_a) monitor.conn_tables (line (seen w).this (seen w).going) (line (seen w).that (seen w).coming)
      (floats (seen w).this (seen w).going) (floats (seen w).that (seen w).coming) (floats (seen w).this (set_at link as_what (seen w).going)) (floats (seen w).that (seen w).coming)
      (λ j. sym (floats_lost link m as_what (seen w) (out_slot w link m k.0.joined e) e l j)) (λ j. refl) (k.1.parley f r)));
}
  where
    is : seen (record w { subnet = with_transit w.subnet w.number_a w.number_b link as_what }) ≡ goes_lost link as_what (seen w)
    is = seen_with w k.0.joined.stand.differ link as_what w.a w.b (had_for w.number_b w.a) (had_for w.number_a w.b) refl refl

lost : (w : Hosts) (monitor : Monitor) (link : ℕ) → Known w monitor → Known (hosts_after_note (note_of_loss A link w) w) monitor
lost w monitor link k = go (transit_of A link w) refl (each_step (Event.Lose A link) (note_of_loss A link w) w monitor refl k.0).1
  where
    AsLost : OnLink → Type 0
    AsLost h = Known (hosts_after_note (if is_accepted h then Note.Lost A link else Note.Nothing A link Move.Lose) w) monitor

    BothAs : OnLink → Type 0
    BothAs h = Both (hosts_after_note (if is_accepted h then Note.Lost A link else Note.Nothing A link Move.Lose) w) monitor

    go : (h : OnLink) → transit_of A link w ≡ h → BothAs (transit_of A link w) → AsLost (transit_of A link w)
    go Free q did = subst AsLost (sym q) k
    go Delivered q did = subst AsLost (sym q) k
    go Lost q did = subst AsLost (sym q) k
    go Dead q did = subst AsLost (sym q) k
    go (Accepted m) q did = subst AsLost (sym q) (subst BothAs q did, lose_with w monitor link m Lost k q refl)

died : (w : Hosts) (monitor : Monitor) (link : ℕ) → Known w monitor → Known (hosts_after_note (note_of_death A link w) w) monitor
died w monitor link k = go (transit_of A link w) refl (each_step (Event.Dead A link) (note_of_death A link w) w monitor refl k.0).1
  where
    AsDead : OnLink → Type 0
    AsDead h = Known (hosts_after_note (if is_accepted h then Note.FoundDead A link else Note.Nothing A link Move.Dead) w) monitor

    BothAs : OnLink → Type 0
    BothAs h = Both (hosts_after_note (if is_accepted h then Note.FoundDead A link else Note.Nothing A link Move.Dead) w) monitor

    go : (h : OnLink) → transit_of A link w ≡ h → BothAs (transit_of A link w) → AsDead (transit_of A link w)
    go Free q did = subst AsDead (sym q) k
    go Delivered q did = subst AsDead (sym q) k
    go Lost q did = subst AsDead (sym q) k
    go Dead q did = subst AsDead (sym q) k
    go (Accepted m) q did = subst AsDead (sym q) (subst BothAs q did, lose_with w monitor link m Dead k q refl)

-- ---- it is answered

told : (w : Hosts) (monitor : Monitor) (link : ℕ) → Known w monitor → Shows never Known (comes_to w.number_a (answering w.number_b link (answer_kind (transit_of A link w)))) (hosts_after_note (note_of_answer A link w) w) monitor
told w monitor link k = go (answer_kind (transit_of A link w)) refl (each_step (Event.Answer A link) (note_of_answer A link w) w monitor refl k.0).1
  where
    As : Option ℕ → Type 0
    As o = Shows never Known (comes_to w.number_a (answering w.number_b link o)) (hosts_after_note (note_of_answering A link (answering w.number_b link o) w) w) monitor

    BothAs : Option ℕ → Type 0
    BothAs o = Both (hosts_after_note (note_of_answering A link (answering w.number_b link o) w) w) (after_file monitor (comes_to w.number_a (answering w.number_b link o)))

    go : (o : Option ℕ) → answer_kind (transit_of A link w) ≡ o → BothAs (answer_kind (transit_of A link w)) → As (answer_kind (transit_of A link w))
    go None q did = subst As (sym q) (refl, k)
    go (Some kind) q did = subst As (sym q) (all_none (record_findings monitor FromImp w.number_a (answer_bits kind w.number_b link)) way.none, (after, now))
      where
        after : Both (hosts_after_note (Note.Answered A link (note_of_bits (answer_bits kind w.number_b link) w.a)) w) (after_record monitor FromImp w.number_a (answer_bits kind w.number_b link))
        after = subst BothAs q did

        l : AnswerLed w link kind
        l = answer_leads w link kind k.0.joined q

        t : Reported_how w link kind
        t = reported_how w link kind k.0.joined q

        way : Told w.number_a w.number_b link (answer_bits kind w.number_b link) w.subnet monitor
        way = ways_answer w.number_a w.number_b link kind (answer_bits kind w.number_b link) w.subnet monitor k.0.joined.stand.differ k.0.joined.stand.fits_a l.led l.not_regular l.is_one q k.0.ways

        state : had_for w.number_b (after_note (note_of_bits (answer_bits kind w.number_b link) w.a) w.a) ≡ answer_comes link (answer_of kind) (had_for w.number_b w.a)
        state =
            ap (λ (n : HostNote). had_for w.number_b (after_note n w.a)) (noted-answer w.a (answer_bits kind w.number_b link) (answer_leader kind w.number_b link) k.0.joined.stand.a l.led l.is_one)
            ∙ had-changed w.number_b (answer_comes link (answer_of kind)) w.a k.0.joined.stand.a

        is : seen (hosts_after_note (Note.Answered A link (note_of_bits (answer_bits kind w.number_b link) w.a)) w) ≡ is_told link (answer_of kind) (seen w)
        is =
            seen_with w k.0.joined.stand.differ link Free (after_note (note_of_bits (answer_bits kind w.number_b link) w.a) w.a) w.b (answer_comes link (answer_of kind) (had_for w.number_b w.a)) (had_for w.number_a w.b) state refl

        conn_tables : (after_record monitor FromImp w.number_a (answer_bits kind w.number_b link)).conn_tables ≡ next_number monitor.conn_tables
        conn_tables = ap (λ (x : Monitor). x.conn_tables) (answer_is monitor w.number_a (answer_bits kind w.number_b link) (answer_leader kind w.number_b link) l.led (b_a w monitor k) l.not_regular l.is_one) ∙ answer_tables (sees monitor w.number_a) kind w.number_a w.number_b link

        far : view_in (after_record monitor FromImp w.number_a (answer_bits kind w.number_b link)).views w.number_b w.number_a ≡ view_in monitor.views w.number_b w.number_a
        far = (other_leaves w.number_b w.number_a FromImp (answer_bits kind w.number_b link) monitor (a_b w monitor k)).views w.number_a k.0.joined.stand.fits_a

        near : view_in (after_record monitor FromImp w.number_a (answer_bits kind w.number_b link)).views w.number_a w.number_b ≡ view_in monitor.views w.number_a w.number_b
        near = way.views w.number_a w.number_b

        open_before : (after_record monitor FromImp w.number_a (answer_bits kind w.number_b link)).full ≡ false → monitor.full ≡ false
        open_before f = (other_leaves w.number_b w.number_a FromImp (answer_bits kind w.number_b link) monitor (a_b w monitor k)).full f

        near_own : AtOwn (w.number_b ∷ []) w.number_a (after_note (note_of_bits (answer_bits kind w.number_b link) w.a) w.a) (after_record monitor FromImp w.number_a (answer_bits kind w.number_b link))
        near_own =
            own_came (w.number_b ∷ []) w.number_a w.a monitor (answer_bits kind w.number_b link) (note_of_bits (answer_bits kind w.number_b link) w.a) k.0.joined.stand.fits_a (one_peer w.number_a w.number_b (b_a w monitor k)) refl (own_a w monitor k)

        far_own : AtOwn (w.number_a ∷ []) w.number_b w.b (after_record monitor FromImp w.number_a (answer_bits kind w.number_b link))
        far_own = own_elsewhere (w.number_a ∷ []) w.number_b w.b monitor w.number_a FromImp (answer_bits kind w.number_b link) (a_b w monitor k) (own_b w monitor k)

        now : SessionInvariants (hosts_after_note (Note.Answered A link (note_of_bits (answer_bits kind w.number_b link) w.a)) w) (after_record monitor FromImp w.number_a (answer_bits kind w.number_b link))
        now = record {
          talks_a = near_own.followed.talks;
          talks_b = far_own.followed.talks;
          parley = λ f r.
              subst (λ (x : World). SessionOf w monitor_now (line x.this x.going) (line x.that x.coming) (floats x.this x.going) (floats x.that x.coming)) (sym is)
              (subst (λ (xs : List Command). SessionOf w monitor_now xs back (floats world.this world.going) kt) (sym (line_reported link t.m (answer_of kind) t.h (seen w) t.slot t.is t.same))
              (subst (λ (x : View). SessionInvariant w.number_a w.number_b x (view_in monitor_now.views w.number_b w.number_a) monitor_now.conn_tables (line (seen w).this (seen w).going) back (floats world.this world.going) kt) (sym near)
              (subst (λ (x : View). SessionInvariant w.number_a w.number_b (view_in monitor.views w.number_a w.number_b) x monitor_now.conn_tables (line (seen w).this (seen w).going) back (floats world.this world.going) kt) (sym far)
              (subst (λ (x : SeenTables). SessionInvariant w.number_a w.number_b (view_in monitor.views w.number_a w.number_b) (view_in monitor.views w.number_b w.number_a) x (line (seen w).this (seen w).going) back (floats world.this world.going) kt) (sym conn_tables)
              (numbered_session
              (floats_session w.number_a w.number_b (view_in monitor.views w.number_a w.number_b) (view_in monitor.views w.number_b w.number_a) monitor.conn_tables (line (seen w).this (seen w).going) back
              (floats (seen w).this (seen w).going) kt (floats world.this world.going) kt (λ j. sym (floats_reported link t.m (answer_of kind) t.h (seen w) t.slot t.is t.same j)) (λ j. refl)
              (k.1.parley (open_before f) (ap (λ (x : SeenTables). x.full) (sym conn_tables) ∙ r))))))));
        }
          where
            monitor_now : Monitor
            monitor_now = after_record monitor FromImp w.number_a (answer_bits kind w.number_b link)

            world : World
            world = is_told link (answer_of kind) (seen w)

            back : List Command
            back = line (seen w).that (seen w).coming

            kt : Afloat
            kt = floats (seen w).that (seen w).coming

            numbered_session : SessionInvariant w.number_a w.number_b (view_in monitor.views w.number_a w.number_b) (view_in monitor.views w.number_b w.number_a) monitor.conn_tables (line (seen w).this (seen w).going) back (floats world.this world.going) kt
                → SessionInvariant w.number_a w.number_b (view_in monitor.views w.number_a w.number_b) (view_in monitor.views w.number_b w.number_a) (next_number monitor.conn_tables) (line (seen w).this (seen w).going) back (floats world.this world.going) kt
            numbered_session =
                tables_session w.number_a w.number_b (view_in monitor.views w.number_a w.number_b) (view_in monitor.views w.number_b w.number_a) monitor.conn_tables (next_number monitor.conn_tables) (line (seen w).this (seen w).going) back (floats world.this world.going) kt
                (record { conns = refl; known_facts = refl; pending_replies = refl }) (record { conns = refl; known_facts = refl; pending_replies = refl })

sides : OfA never Known
sides = record { call = called; out = went; deliver = arrived; lose = lost; die = died; answer = told }

-- each event of the two
pub each_known : Steps never Known
each_known = both_sides never Known turn_known sides

-- ---- the beginning

pub known_begins : (a b : ℕ) → a ≢ b → a < 256 → b < 256 → Known (new_hosts a b) (new_monitor false)
known_begins a b d k l = (
  Both.begins a b d k l,
  record {
    talks_a = talks_begin a (b ∷ []);
    talks_b = talks_begin b (a ∷ []);
    parley = λ f r.
        floats_session a b (view_in (new_monitor false).views a b) (view_in (new_monitor false).views b a) no_conn_tables (line first.this first.going) (line first.that first.coming) (λ l. None) (λ l. None) (floats first.this first.going) (floats first.that first.coming)
        (λ l. sym (no_floats first.this first.going (Both.new_had b) l)) (λ l. sym (no_floats first.that first.coming (Both.new_had a) l))
        (subst (λ (xs : List Command). SessionOf (new_hosts a b) (new_monitor false) xs (line first.that first.coming) (λ l. None) (λ l. None)) (sym (empty first.this first.going (Both.new_had b)))
        (subst (λ (xs : List Command). SessionOf (new_hosts a b) (new_monitor false) [] xs (λ l. None) (λ l. None)) (sym (empty first.that first.coming (Both.new_had a)))
        (subst (λ (x : View). SessionInvariant a b x (view_in (new_monitor false).views b a) no_conn_tables [] [] (λ l. None) (λ l. None)) (sym (Both.new_seen a b))
        (subst (λ (x : View). SessionInvariant a b (new_view false) x no_conn_tables [] [] (λ l. None) (λ l. None)) (sym (Both.new_seen b a)) (begins_session a b)))));
  },
)
  where
    first : World
    first = seen (new_hosts a b)

    no_floats : (s : PeerState) (u : ℕ → Holds) → s ≡ new_state → (l : ℕ) → floats s u l ≡ None
    no_floats s u e l = none_floats s u l (λ z. ap (λ (x : PeerState). is_empty (slot_at x.slots l)) e ∙ ap is_empty (slot_at-no_slots l))

    empty : (s : PeerState) (u : ℕ → Holds) → s ≡ new_state → line s u ≡ []
    empty s u e = ap (λ (x : LinkSlot). commands_out (not_come x (u 0))) (ap (λ (x : PeerState). slot_at x.slots 0) e ∙ slot_at-no_slots 0)

all_unfound : AllPass never
all_unfound = all_pass never Known each_known known_begins

-- for any judged rules
pub nothing_found : (judged : Rule → Bool) → NothingFound judged
nothing_found judged a b given now differ k l steps = none_of judged (findings_in (new_monitor false) (world_file given now.notes (new_hosts a b))) (all_unfound a b given now differ k l steps)
