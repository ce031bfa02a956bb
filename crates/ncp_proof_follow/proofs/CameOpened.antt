-- A message of the peer is received: after all that it holds, the texts reported for the connections of a
-- host match the histories of its ends.
use Rattle.std.proofs.Common.{◌≡◌, ◌≤◌, ℕ, ◌==◌, Bool, true, false, not, ◌&&◌, ◌||◌, if◌then◌else◌, List, [], ◌++◌, take, Option, None, Some, is_some, Ok, option_to_list, refl, sym, ap, ◌∙◌, subst, arith}
use Rattle.std.specs.Prelude.{nat_lt}
use Rattle.std.specs.FinMap.{get, get-empty}
use Rattle.ncp_numbers.specs.Bytes.{bytes_of}
use Rattle.ncp_leader.specs.declared.regular.TheConstants.{FRONT_BITS}
use Rattle.ncp_leader.specs.Message.{Message}
use Rattle.ncp_control.specs.Reading.{commands_in, fault_in}
use Rattle.ncp_slot.specs.Slots.{is_quiet}
use Rattle.ncp_model.specs.declared.pair.Pair.{Pair}
use Rattle.ncp_model.specs.Pairs.{pair_cmp}
use Rattle.ncp_model.specs.Endpoint.{is_live}
use Rattle.ncp_model.specs.Ends.{Ends}
use Rattle.ncp_model.specs.Phase.{Phase, up}
use Rattle.ncp_model.specs.Peers.{takes_text}
use Rattle.ncp_proof_machine.specs.Hosts.{Pasts}
use Rattle.ncp_proof_machine.proofs.EndsGood.{EndsInvariant}
use Rattle.ncp_peer.specs.PeerState.{PeerState}
use Rattle.ncp_peer.specs.Hearing.{state_hears_text, state_after_text, message_after}
use Rattle.ncp_peer.specs.Soundness.{SoundPeer}
use Rattle.ncp_transcript_two.specs.Watch.{of_commands, pasts_after_text, pasts_after_message}
use Rattle.ncp_monitor.specs.declared.conn_tables.TheConstants.{MAX_TABLE_ROWS}
use Rattle.ncp_monitor.specs.declared.finding.Finding.{Finding}
use Rattle.ncp_monitor.specs.declared.finding.ItemKind.{ItemKind}
use Rattle.ncp_interface.specs.declared.sent_message.SentMessage.{SentMessage}
use Rattle.ncp_interface.specs.declared.message_class.MessageClass.{MessageClass}
use Rattle.ncp_interface.specs.declared.message_class.MessageClass.TheVariants.{Stop, Text, Control}
use Rattle.ncp_monitor.specs.declared.phase.MessageContext.{MessageContext}
use Rattle.ncp_monitor.specs.declared.observed_flow.ObservedFlow.{ObservedFlow}
use Rattle.ncp_monitor.specs.declared.view.View.{View}
use Rattle.ncp_monitor.specs.Views.{awaits_reply}
use Rattle.ncp_monitor.specs.ConnStates.{SeenTables, conn_at_index}
use Rattle.ncp_interface.specs.Contents.{is_unused, message_class, items_said}
use Rattle.ncp_monitor.specs.Phases.{is_early, is_acted_on, after_items, missing_finding}
use Rattle.ncp_monitor.specs.Speaking.{after_all_said}
use Rattle.ncp_monitor.specs.Talked.{talked_findings, after_talked, reports_omitted, left_out_findings, after_left_out}
use Rattle.ncp_monitor.specs.Judged.{shows_all, read_findings, tables_after_read}
use Rattle.ncp_follow.specs.declared.tracks.TheConstants.{MAX_TRACKS}
use Rattle.ncp_follow.specs.declared.session.Session.{Session}
use Rattle.ncp_follow.specs.declared.tables.Tables.{Tables}
use Rattle.ncp_follow.specs.declared.observation.Observation.{Observation}
use Rattle.ncp_follow.specs.Sessions.{is_heard}
use Rattle.ncp_follow.specs.Tracks.{track_at}
use Rattle.ncp_follow.specs.Tables.{index_at_link, said_at, after_text}
use Rattle.ncp_follow.specs.Followed.{read_tables}
use Rattle.ncp_proof_monitor.proofs.Phased.{Sees, none_queued}
use Rattle.ncp_proof_monitor.proofs.PhaseSteps.{Stands}
use Rattle.ncp_proof_monitor_host.proofs.Borne.{Borne, QuietReports}
use Rattle.ncp_proof_monitor_host.proofs.Carries.{ShowsBusy}
use Rattle.ncp_proof_monitor_host.proofs.SpokenOut.{Known}
use Rattle.ncp_proof_follow_tables.proofs.Besides.{front_none}
use Rattle.ncp_proof_follow.proofs.SameItems.{Followed}
use Rattle.ncp_proof_follow_tables.proofs.SameTexts.{TextLed}
use Rattle.ncp_proof_follow.proofs.SameReads.{HeardText, text_heard}
use Rattle.ncp_proof_follow_tables.proofs.OpensSo.{AllOpened}
use Rattle.ncp_proof_follow_tables.proofs.Placed.{Placed}
use Rattle.ncp_proof_follow_tables.proofs.PlacedSteps.{said_so}
use Rattle.ncp_proof_follow.proofs.ControlComes.{AtHost, none_lives, from_peer, their_flow, heard}
use Rattle.ncp_proof_follow.proofs.ComesAll.{all_come}
use Rattle.ncp_proof_follow.proofs.TextsOpened.{text_comes_opened}

-- for each opened connection, the monitor allows at most as much to be sent as the follower
abbrev pub IsCovered : SeenTables → Tables → Type 0
IsCovered b t = (p : ℕ) → is_some (track_at t.tracks p).place ≡ true → ((conn_at_index b.conns p).messages ≤ (track_at t.tracks p).left.messages) × ((conn_at_index b.conns p).bits ≤ (track_at t.tracks p).left.bits)

-- the texts stay in their places
said_placed : (observation : Observation) (link size : ℕ) (more : List Bool) (t : Tables) → Placed t → Placed (after_text observation link size more t)
said_placed observation link size more t placed = go (index_at_link observation.at observation.peer observation.sent link t.tracks) refl
  where
    go : (o : Option ℕ) → index_at_link observation.at observation.peer observation.sent link t.tracks ≡ o → Placed (said_at size more t o)
    go None e = placed
    go (Some i) e = (said_so observation t placed observation.sent link size more i e).placed

awake : (p : Phase) → up p ≡ true → p.wait ≡ false
awake p u = grind arith

module _ (number me n : ℕ) (busy : Option ℕ) (zero : Bool) (kept : List SentMessage) (roomy : (i : ℕ) → nat_lt i MAX_TABLE_ROWS ≡ true → nat_lt i MAX_TRACKS ≡ true) (message : Message) (s : PeerState) (pasts : Pasts) (v : View) (b : SeenTables) (σ : Session) (t : Tables)
    (stands : Stands s.peer (is_quiet s.slots) v) (good : EndsInvariant s.peer.ends) (borne : Borne s.peer s.slots) (known : Known me n s.peer v b) (follows : Followed me n v b σ t) (placed : Placed t) (room : b.full ≡ false) (at : AtHost me n s pasts t) where
  abbrev ComesSo : MessageClass → PeerState → Pasts → Type 0
  ComesSo reading now then_pasts = AtHost me n now then_pasts (read_tables reading (heard number me n busy zero kept roomy) message σ t) × Placed (read_tables reading (heard number me n busy zero kept roomy) message σ t)

  -- ---- a text

  module _ (head : List Bool) (all : AllOpened t.tracks) (covered : IsCovered b t) (none : read_findings (from_peer number me n busy zero kept roomy) (their_flow number me n busy zero kept roomy) kept message v b Text ≡ []) where
    h : HeardText number me n n busy zero kept roomy false v b σ t follows message
    h = text_heard number me n n busy zero kept roomy false v b σ t follows message room none

    -- while the host is up it is heard
    heard_up : up s.peer.phase ≡ true → is_heard σ false ≡ true
    heard_up u =
        h.heard
        ∙ go v.told (is_early (from_peer number me n busy zero kept roomy) ItemKind.Text v) v.suspended (awaits_reply v.host.wait) follows.touch.awake.told h.early follows.touch.awake.suspended (waits (awaits_reply v.host.wait) refl)
      where
        waits : (x : Bool) → awaits_reply v.host.wait ≡ x → awaits_reply v.host.wait ≡ false
        waits true e = let nay : true ≡ false = sym (stands.phased.waits e) ∙ awake s.peer.phase u in absurd (cc nay)
        waits false e = e

        go : (x y z w : Bool) → x ≡ true → y ≡ false → z ≡ false → w ≡ false → (x && (not y || is_acted_on (from_peer number me n busy zero kept roomy) v) && not z && not (not false && w)) ≡ true
        go true false false false a d e f = refl
        go false y z w a d e f = absurd (cc a)
        go true true z w a d e f = absurd (cc d)
        go true false true w a d e f = absurd (cc e)
        go true false false true a d e f = absurd (cc f)

    abbrev link : ℕ
    link = message.leader.link

    abbrev texted : Bool → Tables
    texted x = if x then after_text (heard number me n busy zero kept roomy) link message.size message.text t else t

    text_placed : (x : Bool) → Placed (texted x)
    text_placed true = said_placed (heard number me n busy zero kept roomy) link message.size message.text t placed
    text_placed false = placed

    text_so : ComesSo Text (state_after_text link head message s) (pasts_after_text link head message s.peer pasts)
    text_so = (go (up s.peer.phase) refl, text_placed (is_heard σ false))
      where
        go : (x : Bool) → up s.peer.phase ≡ x → AtHost me n (state_after_text link head message s) (pasts_after_text link head message s.peer pasts) (texted (is_heard σ false))
        go true u =
            let k : TextLed (their_flow number me n busy zero kept roomy) link message b = h.led (heard_up u) in
            subst (λ (x : Bool). AtHost me n (state_after_text link head message s) (pasts_after_text link head message s.peer pasts) (texted x)) (sym (heard_up u))
            (text_comes_opened number me n s pasts (λ q. good.sound q) good b t follows.same placed all s.peer.echoes.awaited s.peer.phase.waiting ((known room).0.tells follows.touch.awake.suspended (none_queued s.peer.phase (is_quiet s.slots) v u follows.touch.awake.own_even stands.phased) u) link head message k (covered k.place) borne.sexes u at)
        go false d = none_lives me n (state_after_text link head message s) (pasts_after_text link head message s.peer pasts) (texted (is_heard σ false)) still
          where
            still : (q : Pair) → is_live (get (state_after_text link head message s).peer.ends q) ≡ false
            still q =
                ap (λ (x : Bool). is_live (get (if x then takes_text link head message.size message.text s.peer else s.peer).ends q)) d ∙ ap (λ (m : Ends). is_live (get m q)) (stands.down d) ∙ ap is_live (get-empty pair_cmp q)

  -- ---- control

  left_room : (roomy_text : Bool) (next : View) (mid : SeenTables) → (after_left_out (from_peer number me n busy zero kept roomy) (their_flow number me n busy zero kept roomy) roomy_text next mid).full ≡ mid.full
  left_room roomy_text next mid = go (reports_omitted (from_peer number me n busy zero kept roomy) roomy_text next mid)
    where
      go : (x : Bool) → (if x then after_all_said me n mid else mid).full ≡ mid.full
      go true = refl
      go false = refl

  module _ (sees : Sees (is_quiet s.slots) busy) (quiet : QuietReports (is_quiet s.slots) s.slots) (shows : ShowsBusy me n kept s.slots) (sound : SoundPeer s.peer s.slots) where
    control_so : read_findings (from_peer number me n busy zero kept roomy) (their_flow number me n busy zero kept roomy) kept message v b Control ≡ []
        → (tables_after_read (from_peer number me n busy zero kept roomy) (their_flow number me n busy zero kept roomy) kept message v b Control).full ≡ false
        → ComesSo Control (state_hears_text (commands_in (bytes_of message.text)) (fault_in (bytes_of message.text)) s) (of_commands (commands_in (bytes_of message.text)) s pasts)
    control_so none full =
        all_come number me n busy zero kept roomy (commands_in (bytes_of message.text)) (fault_in (bytes_of message.text)) s pasts v b σ t sees quiet shows stands good borne sound known follows placed at
        (front_none found missing (front_none (found ++ missing) (left_out_findings judges flow kept (shows_all message.text v) next mid) none)) (sym (left_room (shows_all message.text v) next mid) ∙ full)
      where
        judges : MessageContext
        judges = from_peer number me n busy zero kept roomy

        flow : ObservedFlow
        flow = their_flow number me n busy zero kept roomy

        next : View
        next = after_items judges (items_said message.text) v

        mid : SeenTables
        mid = after_talked judges flow kept (items_said message.text) v b

        found : List Finding
        found = talked_findings judges flow kept (items_said message.text) v b

        missing : List Finding
        missing = option_to_list (missing_finding judges (shows_all message.text v) next)

    -- ---- a message, that by itself breaks no rule of links and sizes

    pub came_told : (bits : List Bool) → is_unused message.leader.link ≡ false → ((message.leader.link == 0) ≡ true → (message.size == 8) ≡ true) → AllOpened t.tracks → IsCovered b t
        → read_findings (from_peer number me n busy zero kept roomy) (their_flow number me n busy zero kept roomy) kept message v b (message_class message) ≡ []
        → (tables_after_read (from_peer number me n busy zero kept roomy) (their_flow number me n busy zero kept roomy) kept message v b (message_class message)).full ≡ false
        → AtHost me n (message_after message.leader.link bits (Ok message) s) (pasts_after_message message.leader.link bits (Ok message) s pasts) (read_tables (message_class message) (heard number me n busy zero kept roomy) message σ t)
        × Placed (read_tables (message_class message) (heard number me n busy zero kept roomy) message σ t)
    came_told bits used sized all covered none full = go (on == 0) refl
      where
        on : ℕ
        on = message.leader.link

        go : (x : Bool) → (on == 0) ≡ x → ComesSo (message_class message) (message_after on bits (Ok message) s) (pasts_after_message on bits (Ok message) s pasts)
        go true z =
            let is : message_class message ≡ Control =
            ap (λ (x : Bool). if x then Stop else if not (on == 0) then Text else if message.size == 8 then Control else Stop) used
            ∙ ap (λ (x : Bool). if not x then Text else if message.size == 8 then Control else Stop) z ∙ ap (λ (x : Bool). if x then Control else Stop) (sized z) in
            rw (used, z, sized z) (control_so (subst (λ (r : MessageClass). read_findings (from_peer number me n busy zero kept roomy) (their_flow number me n busy zero kept roomy) kept message v b r ≡ []) is none)
            (subst (λ (r : MessageClass). (tables_after_read (from_peer number me n busy zero kept roomy) (their_flow number me n busy zero kept roomy) kept message v b r).full ≡ false) is full))
        go false z =
            let is : message_class message ≡ Text =
            ap (λ (x : Bool). if x then Stop else if not (on == 0) then Text else if message.size == 8 then Control else Stop) used
            ∙ ap (λ (x : Bool). if not x then Text else if message.size == 8 then Control else Stop) z in
            rw (used, z) (text_so (take FRONT_BITS bits) all covered (subst (λ (r : MessageClass). read_findings (from_peer number me n busy zero kept roomy) (their_flow number me n busy zero kept roomy) kept message v b r ≡ []) is none))
