-- What is read of a message in which nothing is found does the same to what is judged and to what is followed.
use Rattle.std.proofs.Common.{◌≡◌, ℕ, ◌==◌, Bool, true, false, not, ◌&&◌, if◌then◌else◌, List, [], ◌++◌, map, length, Option, Result, option_to_list, refl, sym, ◌∙◌, subst, arith}
use Rattle.std.specs.Prelude.{nat_lt}
use Rattle.ncp_leader.specs.Message.{Message}
use Rattle.ncp_wire.specs.declared.command.Command.{Command}
use Rattle.ncp_wire.specs.declared.fault.CommandFault.{CommandFault}
use Rattle.ncp_monitor.specs.declared.conn_tables.TheConstants.{MAX_TABLE_ROWS}
use Rattle.ncp_monitor.specs.declared.finding.Finding.{Finding}
use Rattle.ncp_monitor.specs.declared.finding.ItemKind.{ItemKind}
use Rattle.ncp_interface.specs.declared.sent_message.SentMessage.{SentMessage}
use Rattle.ncp_interface.specs.declared.message_class.MessageClass.{MessageClass}
use Rattle.ncp_interface.specs.declared.message_class.MessageClass.TheVariants.{Stop, Text, Control}
use Rattle.ncp_monitor.specs.declared.phase.MessageContext.{MessageContext}
use Rattle.ncp_monitor.specs.declared.view.View.{View}
use Rattle.ncp_monitor.specs.ConnStates.{SeenTables}
use Rattle.ncp_interface.specs.Contents.{items_said}
use Rattle.ncp_monitor.specs.Phases.{broken_by, is_early, early_finding, after_items, missing_finding}
use Rattle.ncp_monitor.specs.Texts.{text_rules, conn_tables_after_text}
use Rattle.ncp_monitor.specs.Speaking.{is_admission, after_all_said}
use Rattle.ncp_monitor.specs.Talked.{reaches, talked_findings, after_talked, reports_omitted, left_out_findings, after_left_out, text_findings}
use Rattle.ncp_monitor.specs.Judged.{shows_all, control_findings, after_control, read_findings, after_read, tables_after_read}
use Rattle.ncp_follow.specs.declared.tracks.TheConstants.{MAX_TRACKS}
use Rattle.ncp_follow.specs.declared.session.Session.{Session}
use Rattle.ncp_follow.specs.declared.tables.Tables.{Tables}
use Rattle.ncp_follow.specs.Sessions.{is_heard, with_stray}
use Rattle.ncp_follow.specs.Tables.{after_text}
use Rattle.ncp_follow.specs.Followed.{is_text_opened, text_session, read_session, read_tables}
use Rattle.ncp_proof_monitor_network.proofs.NeverSuspended.{none_early, thing_leaves, room_leaves}
use Rattle.ncp_proof_follow_tables.proofs.Besides.{front_none, rest_none, map_none}
use Rattle.ncp_proof_follow_tables.proofs.Calmly.{Calmly, calmly, none_suspended, any_fewer}
use Rattle.ncp_proof_follow_tables.proofs.SameCommands.{Same, calmly_same, flow, observation}
use Rattle.ncp_proof_follow.proofs.SameItems.{InTouch, Followed, heard_is, Judges, items_followed}
use Rattle.ncp_proof_follow_tables.proofs.SameTexts.{TextLed, text_led, text_same}

-- ---- a session in which a text is heard or not

stray_touch : (v : View) (s : Session) (sent : Bool) (bits : ℕ) → InTouch v s → InTouch v (with_stray s sent bits)
stray_touch v s true bits k = record { awake = k.awake; host_began = k.host_began; peer_began = k.peer_began; host_waits = k.host_waits; peer_waits = k.peer_waits }
stray_touch v s false bits k = record { awake = k.awake; host_began = k.host_began; peer_began = k.peer_began; host_waits = k.host_waits; peer_waits = k.peer_waits }

left_calmly : (at peer : ℕ) (context : MessageContext) (room : Bool) (v : View) (b : SeenTables) → Calmly b (after_left_out context (record { at = at; peer = peer; sent = context.sent }) room v b)
left_calmly at peer context room v b = go (reports_omitted context room v b)
  where
    go : (x : Bool) → Calmly b (if x then after_all_said at peer b else b)
    go true = record { conns = refl; calm = λ e. any_fewer (λ one. not (is_admission at peer one)) b.known_facts e }
    go false = calmly b

left_room : (at peer : ℕ) (context : MessageContext) (room : Bool) (v : View) (b : SeenTables) → (after_left_out context (record { at = at; peer = peer; sent = context.sent }) room v b).full ≡ b.full
left_room at peer context room v b = go (reports_omitted context room v b)
  where
    go : (x : Bool) → (if x then after_all_said at peer b else b).full ≡ b.full
    go true = refl
    go false = refl

module _ (number at peer by : ℕ) (busy : Option ℕ) (zero : Bool) (kept : List SentMessage) (roomy : (n : ℕ) → nat_lt n MAX_TABLE_ROWS ≡ true → nat_lt n MAX_TRACKS ≡ true) (sent : Bool) where
  abbrev pub Reader : MessageContext
  Reader = Judges number at peer by busy zero kept roomy sent

  module _ (v : View) (b : SeenTables) (s : Session) (t : Tables) (k : Followed at peer v b s t) where
    -- what is known after it
    abbrev pub ReadSo : Message → MessageClass → Type 0
    ReadSo message reading =
        InTouch (after_read reading Reader message.text v) (read_session reading (observation number at peer sent kept roomy) message s t)
        × Same (tables_after_read Reader (flow number at peer sent kept roomy) kept message v b reading) (read_tables reading (observation number at peer sent kept roomy) message s t)

    control_so : (message : Message) → control_findings Reader (flow number at peer sent kept roomy) kept message.text v b ≡ []
        → (after_control Reader (flow number at peer sent kept roomy) kept message.text v b).full ≡ false → ReadSo message Control
    control_so message none full = (subst (λ (w : View). InTouch w done) (sym (room_leaves Reader room next all.touch.awake.told all.touch.awake.own_even)) all.touch, calmly_same mid (after_left_out Reader (flow number at peer sent kept roomy) room next mid) after (left_calmly at peer Reader room next mid) all.same)
      where
        items : List (Result Command CommandFault)
        items = items_said message.text

        room : Bool
        room = shows_all message.text v

        next : View
        next = after_items Reader items v

        mid : SeenTables
        mid = after_talked Reader (flow number at peer sent kept roomy) kept items v b

        done : Session
        done = read_session MessageClass.Control (observation number at peer sent kept roomy) message s t

        after : Tables
        after = read_tables MessageClass.Control (observation number at peer sent kept roomy) message s t

        found : List Finding
        found = talked_findings Reader (flow number at peer sent kept roomy) kept items v b

        all : Followed at peer next mid done after
        all =
            items_followed number at peer by busy zero kept roomy sent items v b s t k
            (front_none found (option_to_list (missing_finding Reader room next)) (front_none (found ++ option_to_list (missing_finding Reader room next)) (left_out_findings Reader (flow number at peer sent kept roomy) kept room next mid) none))
            (sym (left_room at peer Reader room next mid) ∙ full)

    -- what a text is, where it is heard
    pub record HeardText (message : Message) : Type 0 where
      pub early : is_early Reader ItemKind.Text v ≡ false
      pub heard : is_heard s sent ≡ reaches Reader ItemKind.Text v
      pub led : is_heard s sent ≡ true → TextLed (flow number at peer sent kept roomy) message.leader.link message b

    pub text_heard : (message : Message) → b.full ≡ false → read_findings Reader (flow number at peer sent kept roomy) kept message v b Text ≡ [] → HeardText message
    text_heard message full none = record { early = early; heard = heard; led = λ h. if_so (reaches Reader ItemKind.Text v) (sym heard ∙ h) (rest_none early_found found none) }
      where
        link : ℕ
        link = message.leader.link

        early_found : List Finding
        early_found = option_to_list (early_finding Reader ItemKind.Text v)

        found : List Finding
        found = text_findings Reader (flow number at peer sent kept roomy) link message v b

        early : is_early Reader ItemKind.Text v ≡ false
        early = none_early Reader ItemKind.Text v k.touch.awake.told (front_none early_found found none)

        heard : is_heard s sent ≡ reaches Reader ItemKind.Text v
        heard = heard_is number at peer by sent busy zero kept roomy ItemKind.Text v s k.touch early

        if_so : (x : Bool) → x ≡ true → (if x then map (broken_by Reader) (text_rules (flow number at peer sent kept roomy) link message b) else []) ≡ [] → TextLed (flow number at peer sent kept roomy) link message b
        if_so true e none =
            text_led (flow number at peer sent kept roomy) link message b (λ host on. none_suspended at peer host on b k.same.calm) full
            (map_none (broken_by Reader) (text_rules (flow number at peer sent kept roomy) link message b) none)
        if_so false e none = absurd (cc e)

    text_so : (message : Message) → b.full ≡ false → read_findings Reader (flow number at peer sent kept roomy) kept message v b Text ≡ [] → ReadSo message Text
    text_so message full none = (subst (λ (w : View). InTouch w (text_session (observation number at peer sent kept roomy) link message.text s t)) (sym (thing_leaves Reader ItemKind.Text v h.early)) (touch (is_text_opened (observation number at peer sent kept roomy) link s t)), same (is_heard s sent) refl)
      where
        link : ℕ
        link = message.leader.link

        h : HeardText message
        h = text_heard message full none

        touch : (x : Bool) → InTouch v (if x then s else with_stray s sent (length message.text))
        touch true = k.touch
        touch false = stray_touch v s sent (length message.text) k.touch

        same : (x : Bool) → is_heard s sent ≡ x
            → Same (if reaches Reader ItemKind.Text v then conn_tables_after_text (flow number at peer sent kept roomy) link message b else b) (if is_heard s sent then after_text (observation number at peer sent kept roomy) link message.size message.text t else t)
        same true e =
            subst (λ (x : Bool). Same (if x then conn_tables_after_text (flow number at peer sent kept roomy) link message b else b) (if is_heard s sent then after_text (observation number at peer sent kept roomy) link message.size message.text t else t)) (h.heard)
            (subst (λ (x : Bool). Same (if x then conn_tables_after_text (flow number at peer sent kept roomy) link message b else b) (if x then after_text (observation number at peer sent kept roomy) link message.size message.text t else t)) (sym e)
            (text_same (flow number at peer sent kept roomy) link message b number t k.same (h.led e)))
        same false e =
            subst (λ (x : Bool). Same (if x then conn_tables_after_text (flow number at peer sent kept roomy) link message b else b) (if is_heard s sent then after_text (observation number at peer sent kept roomy) link message.size message.text t else t)) (h.heard)
            (subst (λ (x : Bool). Same (if x then conn_tables_after_text (flow number at peer sent kept roomy) link message b else b) (if x then after_text (observation number at peer sent kept roomy) link message.size message.text t else t)) (sym e) k.same)

    pub read_so : (message : Message) (reading : MessageClass) → b.full ≡ false → read_findings Reader (flow number at peer sent kept roomy) kept message v b reading ≡ []
        → (tables_after_read Reader (flow number at peer sent kept roomy) kept message v b reading).full ≡ false → ReadSo message reading
    read_so message Stop room none full = (k.touch, k.same)
    read_so message Text room none full = text_so message room none
    read_so message Control room none full = control_so message none full
