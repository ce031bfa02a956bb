-- A message that a host receives from the other, and the texts reported at its interface after it: for
-- each live end the text that it got.
use Rattle.std.proofs.Common.{◌≡◌, ℕ, ◌==◌, Bool, true, false, if◌then◌else◌, List, [], length, filter, Result, Ok, refl, sym, ap, ◌∙◌, subst, arith}
use Rattle.std.proofs.lemmas.Bool.{eqb-true}
use Rattle.ncp_numbers.specs.Bytes.{bits_of_bytes}
use Rattle.ncp_leader.specs.declared.fault.MessageFault.{MessageFault}
use Rattle.ncp_leader.specs.declared.leader.Leader.{Leader}
use Rattle.ncp_leader.specs.declared.leader.Short.{Short}
use Rattle.ncp_leader.specs.Leader.{leader_in}
use Rattle.ncp_leader.specs.Message.{Message, message_in, message_with}
use Rattle.ncp_wire.specs.Spelling.{spellings}
use Rattle.ncp_slot.specs.Slots.{slot_at, is_quiet}
use Rattle.ncp_proof_machine.specs.Hosts.{Pasts}
use Rattle.ncp_peer.specs.PeerState.{PeerState}
use Rattle.ncp_peer.specs.Hearing.{message_after}
use Rattle.ncp_peer.specs.Output.{leader_to}
use Rattle.ncp_transcript_two.specs.Subnet.{Accepted, from_host}
use Rattle.ncp_transcript_two.specs.World.{state_after_with, state_after_received}
use Rattle.ncp_transcript_two.specs.Watch.{pasts_after_message}
use Rattle.ncp_transcript_two.specs.declared.side.Side.TheVariants.{B}
use Rattle.ncp_transcript_two.specs.Between.{Hosts, transit_of}
use Rattle.ncp_transcript_two.specs.Seen.{had_for}
use Rattle.ncp_transcript_two.proofs.SeenRuns.{counterpart}
use Rattle.ncp_transcript_two.proofs.Written.{control_text}
use Rattle.ncp_monitor.specs.declared.monitor.Monitor.{Monitor}
use Rattle.ncp_monitor.specs.declared.view.View.{View}
use Rattle.ncp_monitor.specs.declared.views.TheConstants.{VIEWS}
use Rattle.ncp_interface.specs.declared.imp_direction.ImpDirection.TheVariants.{FromImp}
use Rattle.ncp_monitor.specs.declared.phase.MessageContext.{MessageContext}
use Rattle.ncp_monitor.specs.ConnStates.{SeenTables}
use Rattle.ncp_interface.specs.Contents.{is_unused, message_class}
use Rattle.ncp_interface.specs.Slots.{is_of, position_of, busy_link}
use Rattle.ncp_monitor.specs.Talked.{observed_flow_of}
use Rattle.ncp_monitor.specs.Tables.{view_in}
use Rattle.ncp_monitor.specs.Views.{awaits_reply}
use Rattle.ncp_monitor.specs.Judged.{next_number, sees, view_of, knows_zero, judges_coming, after_in, turn_at, read_findings, tables_after_read, said_findings, record_findings, after_record, with_coming}
use Rattle.ncp_follow.specs.declared.follower.Follower.{Follower}
use Rattle.ncp_follow.specs.declared.session.Session.{Session}
use Rattle.ncp_follow.specs.declared.tables.Tables.{Tables}
use Rattle.ncp_follow.specs.declared.observation.Observation.{Observation}
use Rattle.ncp_follow.specs.Sessions.{session_of}
use Rattle.ncp_follow.specs.Followed.{read_tables, follower_after_said, follower_after_record}
use Rattle.ncp_proof_monitor.proofs.Fresh.{sees_busy}
use Rattle.ncp_proof_monitor.proofs.Linked.{coming_keeps}
use Rattle.ncp_proof_monitor.proofs.PhaseSteps.{Stands}
use Rattle.ncp_proof_monitor.proofs.PhaseSeen.{Seen}
use Rattle.ncp_proof_monitor.proofs.Shown.{Shows}
use Rattle.ncp_proof_monitor_replies.proofs.BooksRecord.{in_tables}
use Rattle.ncp_proof_monitor_allocation.proofs.TidyBooks.{Tidy}
use Rattle.ncp_proof_monitor_host.proofs.Carries.{Carries}
use Rattle.ncp_proof_monitor_host.proofs.CarriesOn.{quiet_reports}
use Rattle.ncp_proof_monitor_host.proofs.ShowsKept.{shows_busy}
use Rattle.ncp_proof_monitor_host.proofs.Spoken.{Spoken}
use Rattle.ncp_proof_monitor_host.proofs.SpokenOut
use Rattle.ncp_proof_monitor_host.proofs.FlowWalk.{sound_of, numbered_spoken}
use Rattle.ncp_proof_monitor_messages.proofs.AsRead.{control_of}
use Rattle.ncp_proof_monitor_messages.proofs.Between.{Written, written, comes_led}
use Rattle.ncp_proof_monitor_messages.proofs.Both
use Rattle.ncp_proof_monitor_messages.proofs.Coming.{Control, control, Text, a_text}
use Rattle.ncp_proof_monitor_network.proofs.SessionInvariants.{Known, turn_known}
use Rattle.ncp_proof_follow.proofs.SameItems.{Followed, NoneBetween}
use Rattle.ncp_proof_follow_tables.proofs.SameSessions.{few_room}
use Rattle.ncp_proof_follow.proofs.SameRecords.{Alike, came_alike, tables_in, unsaid_in, view_in_opened, books_in}
use Rattle.ncp_proof_follow_tables.proofs.OpensSo.{AllOpened}
use Rattle.ncp_proof_follow_tables.proofs.Placed.{Placed}
use Rattle.ncp_proof_follow.proofs.ControlComes.{AtHost}
use Rattle.ncp_proof_follow.proofs.CameOpened.{IsCovered, came_told}
use Rattle.ncp_proof_follow.proofs.BothFollowed.{Beside, roomy, waits, b_a}

module _ (w : Hosts) (u : Monitor) (k : Known w u) (unfull : u.full ≡ false) (room : u.conn_tables.full ≡ false) (number : ℕ) (f : Follower) (beside : Beside w.number_a w.number_b u f) (placed : Placed f.tables) (all : AllOpened f.tables.tracks)
    (covered : IsCovered u.conn_tables f.tables) (link : ℕ) (m : List Bool) (q : transit_of B link w ≡ Accepted m) (after_room : (after_record u FromImp w.number_a (from_host w.number_b m)).conn_tables.full ≡ false) (unfound : record_findings u FromImp w.number_a (from_host w.number_b m) ≡ [])
    (pasts : Pasts) where
  abbrev a : ℕ
  a = w.number_a

  abbrev b : ℕ
  b = w.number_b

  abbrev st : PeerState
  st = had_for w.number_b w.a

  abbrev bits : List Bool
  bits = from_host b m

  t : Known (counterpart w) u
  t = turn_known w u k

  r : Written (counterpart w) link m
  r = written (counterpart w) link m t.0.joined q

  led : leader_in bits ≡ Ok (leader_to b link)
  led = comes_led (counterpart w) link m t.0.joined r

  seen : Seen st (view_in u.views a b)
  seen = Both.own_seen w u k.0 unfull

  abbrev A : Monitor
  A = after_in (sees u a) a b link

  abbrev v : View
  v = view_in A.views a b

  kept_view : v ≡ view_in u.views a b
  kept_view = go (judges_coming (sees u a) a b)
    where
      go : (x : Bool) → view_in (if x then record (sees u a) { kept = with_coming u.kept (position_of b a link u.kept) } else sees u a).views a b ≡ view_in u.views a b
      go true = refl
      go false = refl

  conn_tables : A.conn_tables ≡ next_number u.conn_tables
  conn_tables = in_tables (sees u a) a b link

  abbrev σ : Session
  σ = session_of false f.sessions a b

  abbrev now : Tables
  now = (follower_after_record number false a bits f).tables

  abbrev hearing : Observation
  hearing = record { number = number; at = a; peer = b; sent = false }

  came : Alike a b A f × (length A.views ≡ VIEWS) × (A.full ≡ u.full) × (A.conn_tables.full ≡ u.conn_tables.full) × (awaits_reply (view_in A.views a b).host.wait ≡ true → NoneBetween a b A.conn_tables)
  came = came_alike number a b k.0.joined.stand.fits_a k.0.joined.stand.fits_b roomy link bits u f beside.this (b_a w u k unfull room number f beside) k.0.ways.sound.long (waits w u k unfull room number f beside) (λ e. few_room a b f.sessions beside.few) led

  follows : Followed a b v A.conn_tables σ f.tables
  follows = record { touch = came.0.touch; same = record { conns = came.0.same.conns; calm = came.0.same.calm }; none = came.4 }

  shown : (l : ℕ) → Shows (filter (is_of a b l) A.kept) (slot_at st.slots l)
  shown = (coming_keeps a w.a (sees u a) b link (b_a w u k unfull room number f beside) (λ e. k.0.at_a.watched.follows e) (came.2 ∙ unfull)).agrees b st (Both.there w u k.0)

  held : Carries st.peer st.slots
  held = k.1.talks_a.carries unfull b st (Both.there w u k.0)

  stands : Stands st.peer (is_quiet st.slots) v
  stands = subst (λ (x : View). Stands st.peer (is_quiet st.slots) x) (sym kept_view) seen.stands

  known : SpokenOut.Known a b st.peer v A.conn_tables
  known g = (
    subst (λ (x : View). Spoken a b st.peer x A.conn_tables) (sym kept_view)
        (subst (λ (x : SeenTables). Spoken a b st.peer (view_in u.views a b) x) (sym conn_tables) (numbered_spoken a b st.peer (view_in u.views a b) u.conn_tables (k.1.talks_a.spoken unfull room b st (Both.there w u k.0)))),
    subst Tidy (sym conn_tables) (k.1.talks_a.tidy room),
  )

  covered_in : IsCovered A.conn_tables f.tables
  covered_in = subst (λ (x : SeenTables). IsCovered x f.tables) (sym conn_tables) covered

  abbrev by_other : MessageContext
  by_other = turn_at A a b b false

  abbrev Comes : ℕ → Type 0
  Comes on = AtHost a b st pasts f.tables → AtHost a b (message_after on bits (message_in bits) st) (pasts_after_message on bits (message_in bits) st pasts) now

  -- as it is read
  read_in : (x : Message) → message_in bits ≡ Ok x → x.leader.link ≡ link → is_unused x.leader.link ≡ false → ((x.leader.link == 0) ≡ true → (x.size == 8) ≡ true) → Comes link
  read_in x reads on used sized at =
      subst (λ (y : Tables). AtHost a b (message_after link bits (message_in bits) st) (pasts_after_message link bits (message_in bits) st pasts) y) (sym is)
      (subst (λ (z : Result Message MessageFault). AtHost a b (message_after link bits z st) (pasts_after_message link bits z st pasts) (read_tables (message_class x) hearing x σ f.tables)) (sym reads)
      (subst (λ (j : ℕ). AtHost a b (message_after j bits (Ok x) st) (pasts_after_message j bits (Ok x) st pasts) (read_tables (message_class x) hearing x σ f.tables)) on printed_so))
    where
      is : now ≡ read_tables (message_class x) hearing x σ f.tables
      is =
          tables_in number a b k.0.joined.stand.fits_a k.0.joined.stand.fits_b roomy link bits u f beside.this (b_a w u k unfull room number f beside) k.0.ways.sound.long (waits w u k unfull room number f beside) (λ e. few_room a b f.sessions beside.few) led
          ∙ ap (λ (z : Result Message MessageFault). (follower_after_said hearing z f).tables) reads ∙ ap (λ (p : Bool). read_tables (message_class x) hearing x (session_of p f.sessions a b) f.tables) beside.this.part

      as_told : view_of A a b ≡ v
      as_told =
          view_in_opened number a b k.0.joined.stand.fits_a k.0.joined.stand.fits_b roomy link bits u f beside.this (b_a w u k unfull room number f beside) k.0.ways.sound.long (waits w u k unfull room number f beside) (λ e. few_room a b f.sessions beside.few) led unfull

      none : read_findings by_other (observed_flow_of a b by_other) A.kept x v A.conn_tables (message_class x) ≡ []
      none =
          subst (λ (y : View). read_findings by_other (observed_flow_of a b by_other) A.kept x y A.conn_tables (message_class x) ≡ []) as_told
          (ap (λ (z : Result Message MessageFault). said_findings A a b by_other true z) (sym reads)
          ∙ unsaid_in number a b k.0.joined.stand.fits_a k.0.joined.stand.fits_b roomy link bits u f beside.this (b_a w u k unfull room number f beside) k.0.ways.sound.long (waits w u k unfull room number f beside) (λ e. few_room a b f.sessions beside.few) led unfound)

      full : (tables_after_read by_other (observed_flow_of a b by_other) A.kept x v A.conn_tables (message_class x)).full ≡ false
      full =
          subst (λ (y : View). (tables_after_read by_other (observed_flow_of a b by_other) A.kept x y A.conn_tables (message_class x)).full ≡ false) as_told
          (ap (λ (y : SeenTables). y.full)
          (sym (books_in number a b k.0.joined.stand.fits_a k.0.joined.stand.fits_b roomy link bits u f beside.this (b_a w u k unfull room number f beside) k.0.ways.sound.long (waits w u k unfull room number f beside) (λ e. few_room a b f.sessions beside.few) led x reads))
          ∙ after_room)

      printed_so : AtHost a b (message_after x.leader.link bits (Ok x) st) (pasts_after_message x.leader.link bits (Ok x) st pasts) (read_tables (message_class x) hearing x σ f.tables)
      printed_so =
          (came_told number a b (busy_link a b A.kept) (knows_zero A a b) A.kept roomy x st pasts v A.conn_tables σ f.tables stands (Both.is_ready w u k.0).fine.good (record { proper = held.proper; sexes = held.sexes; busy = held.busy; leaving = held.leaving }) known follows placed (came.3 ∙ room) at
          (sees_busy a b A.kept st shown seen.used) (quiet_reports st.slots seen.used) (shows_busy a b A.kept st.slots shown) (sound_of st (is_quiet st.slots) (view_in u.views a b) held seen.stands) bits used sized all covered_in none full).0

  comes_on : Comes link
  comes_on = go (link == 0) refl
    where
      of_zero : transit_of B 0 w ≡ Accepted m → 0 ≡ link → Comes link
      of_zero e z =
          let c : Control (counterpart w) m = control (counterpart w) m t.0.joined e in
          read_in (control_of b c.cs) (Both.reads_as (counterpart w) u t.0 m 0 8 (bits_of_bytes (spellings c.cs)) (control_text c.cs c.fits) (omega arith) c.is) z refl (λ s. refl)

      go : (x : Bool) → (link == 0) ≡ x → Comes link
      go true z = let zero : link ≡ 0 = eqb-true link 0 z in of_zero (ap (λ (j : ℕ). transit_of B j w) (sym zero) ∙ q) (sym zero)
      go false z =
          let c : Text (counterpart w) link m = a_text (counterpart w) link m z t.0.joined q in
          read_in (message_with (leader_to b link) c.size c.text) (Both.reads_as (counterpart w) u t.0 m link c.size c.text c.fits r.few c.is) refl c.right (λ s. let nay : true ≡ false = sym s ∙ z in absurd (cc nay))

  pub comes_opened : AtHost a b st pasts f.tables → AtHost a b (state_after_received bits st) (pasts_after_message link bits (message_in bits) st pasts) now
  comes_opened at = subst (λ (x : PeerState). AtHost a b x (pasts_after_message link bits (message_in bits) st pasts) now) (sym (ap (λ (z : Result Leader Short). state_after_with z bits st) led)) (comes_on at)
