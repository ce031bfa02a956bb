-- While no rule is broken, no connection, no link and no echoes are suspended.
use Rattle.std.proofs.Common.{◌≡◌, ℕ, ◌==◌, Bool, true, false, not, ◌&&◌, ◌||◌, if◌then◌else◌, List, [], ◌∷◌, ◌++◌, map, Option, None, Some, option_map, option_to_list, Result, Ok, refl, sym, ap, ◌∙◌, subst}
use Rattle.std.specs.Prelude.{nat_lt}
use Rattle.std.specs.List.{list_any, filter}
use Rattle.ncp_leader.specs.declared.fault.MessageFault.{MessageFault}
use Rattle.ncp_leader.specs.Message.{Message, message_in}
use Rattle.ncp_wire.specs.declared.command.Command.{Command}
use Rattle.ncp_wire.specs.declared.command.Command.TheVariants.{Nop, Rts, Str, Cls, Gvb, Ret, Inr, Ins, Eco, Erp, Err, Rst, Rrp}
use Rattle.ncp_wire.specs.declared.fault.CommandFault.{CommandFault}
use Rattle.ncp_monitor.specs.declared.conn_tables.TheConstants.{MAX_TABLE_ROWS}
use Rattle.ncp_monitor.specs.declared.conn_state.ConnState.{ConnState}
use Rattle.ncp_monitor.specs.declared.conn_state.Fact.{Fact}
use Rattle.ncp_monitor.specs.declared.conn_state.FactKind.{FactKind}
use Rattle.ncp_interface.specs.declared.event.InterfaceEvent.{InterfaceEvent}
use Rattle.ncp_interface.specs.declared.event.InterfaceEvent.TheVariants as event
use Rattle.ncp_monitor.specs.declared.finding.Finding.{Finding}
use Rattle.ncp_monitor.specs.declared.finding.Rule.{Rule}
use Rattle.ncp_monitor.specs.declared.finding.ItemKind.{ItemKind}
use Rattle.ncp_interface.specs.declared.imp_direction.ImpDirection.{ImpDirection}
use Rattle.ncp_interface.specs.declared.message_class.MessageClass.{MessageClass}
use Rattle.ncp_interface.specs.declared.message_class.MessageClass.TheVariants.{Stop, Text, Control}
use Rattle.ncp_monitor.specs.declared.monitor.Monitor.{Monitor}
use Rattle.ncp_monitor.specs.declared.observed_flow.ObservedFlow.{ObservedFlow}
use Rattle.ncp_monitor.specs.declared.phase.MessageContext.{MessageContext}
use Rattle.ncp_interface.specs.declared.sent_message.SentMessage.{SentMessage}
use Rattle.ncp_monitor.specs.declared.view.View.{View}
use Rattle.ncp_monitor.specs.Acts.{act_of}
use Rattle.ncp_monitor.specs.ConnStates.{SeenTables, no_conn_tables, is_conn_between, is_fact_between, tables_cleared}
use Rattle.ncp_monitor.specs.Coverage.{CaptureRecord, is_of_suspension, is_suspended_conn, is_suspension, has_suspended}
use Rattle.ncp_interface.specs.Events.{event_of}
use Rattle.ncp_monitor.specs.Messages.{judged_bits, rule_of_message}
use Rattle.ncp_interface.specs.Contents.{message_class, items_said}
use Rattle.ncp_monitor.specs.Phases.{broken_by, early_finding, item_findings, act_findings, after_item, after_items, missing_finding}
use Rattle.ncp_interface.specs.Slots.{position_of, gone_out, has_room, with_out, busy_link, with_answer}
use Rattle.ncp_monitor.specs.Tables.{view_in, with_view}
use Rattle.ncp_monitor.specs.Allocation.{number_rules}
use Rattle.ncp_monitor.specs.Texts.{text_rules, conn_tables_after_text}
use Rattle.ncp_monitor.specs.Speaking.{command_rule, spoken_rule, spoken_numbers, tables_after_command, after_spoken, is_admission, after_all_said}
use Rattle.ncp_monitor.specs.Talked.{observed_flow_of, reaches, act_reaches, clears, flow_finding, number_findings, after_flow, all_findings, talked_findings, after_talked, reports_omitted, left_out_findings, after_left_out, text_findings, after_talked_text}
use Rattle.ncp_monitor.specs.Judged.{new_monitor, next_number, sees, view_of, knows_zero, slot_of_link, same_of, view_after_out, out_finding, fresh_out, monitor_after_out, monitor_after_answer, judges_coming, with_coming, unsent_finding, after_in, turn_at, shows_all, read_findings, tables_after_read, said_findings, after_said, message_findings, event_findings, after_event, record_findings, after_record}
use Rattle.ncp_follow.specs.declared.followed_conn.FollowedConn.{FollowedConn}
use Rattle.ncp_follow.specs.declared.tables.Tables.{Tables}
use Rattle.ncp_follow.specs.declared.tracks.TheConstants.{MAX_TRACKS}
use Rattle.ncp_follow.specs.Tables.{is_track_of}
use Rattle.ncp_proof_monitor_messages.specs.Files.{findings_in}
use Rattle.ncp_proof_monitor_replies.proofs.BooksRead.{items_read, read_reads, said_reads}
use Rattle.ncp_proof_monitor_replies.proofs.AllGo.{room_before}
use Rattle.ncp_proof_follow_tables.proofs.Besides.{besides_filter, front_none, rest_none, map_none}
use Rattle.ncp_proof_follow_tables.proofs.SameConns.{SameConn, SameConns, between_is}
use Rattle.ncp_proof_follow_tables.proofs.Calmly.{is_link_mark, none_suspended, any_fewer}
use Rattle.ncp_proof_follow_tables.proofs.SameCommands.{Same, command_same}
use Rattle.ncp_proof_follow_tables.proofs.SameTexts.{text_led, text_same}
use Rattle.ncp_proof_monitor_exact.specs.Exact.{monitor_after_file}
use Rattle.ncp_proof_monitor_exact.proofs.Echoes.{is_echo_fact, EchoesAsked, none_asked, stay_asked, stay_text, stay_said, cleared_asked, command_asked}
use Rattle.ncp_proof_monitor_exact.proofs.Fronts.{parts}

-- ---- the invariant

-- the tables are those of some connections that are followed, none of them suspended; no link is; and each
-- pending ERP has its ECO
pub record Awake (b : SeenTables) : Type 0 where
  followed : Tables
  same : Same b followed
  asked : EchoesAsked b

roomy : (n : ℕ) → nat_lt n MAX_TABLE_ROWS ≡ true → nat_lt n MAX_TRACKS ≡ true
roomy n e = e

-- so nothing of two hosts is suspended

none_between : (at peer : ℕ) (conns : List ConnState) (tracks : List FollowedConn) → SameConns conns tracks → list_any (is_suspended_conn at peer) conns ≡ false
none_between at peer [] [] k = refl
none_between at peer [] (m ∷ tracks) k = absurd k
none_between at peer (l ∷ conns) [] k = absurd k
none_between at peer (l ∷ conns) (m ∷ tracks) (one, rest) =
    ap (λ (b : Bool). (is_conn_between at peer l && b) || list_any (is_suspended_conn at peer) conns) one.awake ∙ by (is_conn_between at peer l) ∙ none_between at peer conns tracks rest
  where
    by : (b : Bool) → ((b && false) || list_any (is_suspended_conn at peer) conns) ≡ list_any (is_suspended_conn at peer) conns
    by true = refl
    by false = refl

no_suspension : (at peer : ℕ) (facts : List Fact) → list_any is_link_mark facts ≡ false → list_any is_echo_fact facts ≡ false → list_any (is_suspension at peer) facts ≡ false
no_suspension at peer [] e f = refl
no_suspension at peer (one ∷ facts) e f =
    let links = or_off (is_link_mark one) (list_any is_link_mark facts) e in
    let echoes = or_off (is_echo_fact one) (list_any is_echo_fact facts) f in
    ap (λ (b : Bool). (is_fact_between at peer one && b) || list_any (is_suspension at peer) facts) (neither one.fact_kind links.0 echoes.0) ∙ by (is_fact_between at peer one) ∙ no_suspension at peer facts links.1 echoes.1
  where
    or_off : (a b : Bool) → (a || b) ≡ false → (a ≡ false) × (b ≡ false)
    or_off true b g = absurd (cc g)
    or_off false b g = (refl, g)

    by : (b : Bool) → ((b && false) || list_any (is_suspension at peer) facts) ≡ list_any (is_suspension at peer) facts
    by true = refl
    by false = refl

    neither : (x : FactKind) → is_link_mark (record { at = one.at; peer = one.peer; fact_kind = x }) ≡ false → is_echo_fact (record { at = one.at; peer = one.peer; fact_kind = x }) ≡ false → is_of_suspension x ≡ false
    neither (FactKind.LinkSuspended host link) g h = absurd (cc g)
    neither (FactKind.EchoesRest host) g h = absurd (cc h)
    neither (FactKind.Asks host) g h = refl
    neither (FactKind.Admits host bytes) g h = refl

pub none_of_pair : (at peer : ℕ) (b : SeenTables) → Awake b → has_suspended at peer b ≡ false
none_of_pair at peer b k =
    ap (λ (x : Bool). x || list_any (is_suspension at peer) b.known_facts) (none_between at peer b.conns k.followed.tracks k.same.conns)
    ∙ no_suspension at peer b.known_facts k.same.calm k.asked.rest

pub begins_awake : Awake no_conn_tables
begins_awake = record { followed = record { tracks = []; told = [] }; same = record { conns = tt; calm = refl }; asked = none_asked }

-- the number of the record is none of it
numbered : (b : SeenTables) → Awake b → Awake (next_number b)
numbered b k = record { followed = k.followed; same = record { conns = k.same.conns; calm = k.same.calm }; asked = record { asked = k.asked.asked; rest = k.asked.rest } }

-- ---- an item of a control text

module _ (at peer by : ℕ) (sent : Bool) (busy : Option ℕ) (zero : Bool) (kept : List SentMessage) where
  abbrev context : MessageContext
  context = record { by = by; sent = sent; busy = busy; zero = zero }

  abbrev flow : ObservedFlow
  flow = record { at = at; peer = peer; sent = sent }

  cleared_awake : (b : SeenTables) → Awake b → Awake (tables_cleared at peer b)
  cleared_awake b k = record {
    followed = record k.followed { tracks = filter (λ conn. not (is_track_of at peer conn)) k.followed.tracks };
    same = record {
      conns = besides_filter SameConn (λ conn. not (is_conn_between at peer conn)) (λ conn. not (is_track_of at peer conn)) (λ l m one. ap not (between_is at peer l m one)) b.conns k.followed.tracks k.same.conns;
      calm = any_fewer (λ one. not (is_fact_between at peer one)) b.known_facts k.same.calm;
    };
    asked = cleared_asked at peer b k.asked;
  }

  command_awake : (c : Command) (b : SeenTables) → Awake b → command_rule flow kept c b ≡ None → number_rules flow c b ≡ [] → (tables_after_command flow kept c b).full ≡ false → Awake (tables_after_command flow kept c b)
  command_awake c b k right numbers full = record { followed = _; same = command_same 0 at peer kept roomy sent c b k.followed k.same right numbers full; asked = command_asked at peer sent kept c b full right k.asked }

  item_awake : (item : Result Command CommandFault) (v : View) (b : SeenTables) → Awake b → all_findings context flow kept item v b ≡ [] → (after_flow context flow kept item v b).full ≡ false → Awake (after_flow context flow kept item v b)
  item_awake (Result.Err fault) v b k none full = absurd (cc none)
  item_awake (Ok c) v b k none full = go (clears context (act_of (Ok c)) v) (act_reaches context (act_of (Ok c)) v) found.0 found.1 full
    where
      front : List Finding
      front = item_findings context (Ok c) v

      flowing : List Finding
      flowing = option_to_list (flow_finding context flow kept (Ok c) v b)

      numbering : List Finding
      numbering = number_findings context flow (Ok c) v b

      found : (flowing ≡ []) × (numbering ≡ [])
      found = let p = parts (front ++ flowing) numbering none in ((parts front flowing p.0).1, p.1)

      go : (x y : Bool) → option_to_list (if y then option_map (broken_by context) (spoken_rule flow kept (Ok c) b) else None) ≡ [] → (if y then map (broken_by context) (spoken_numbers flow (Ok c) b) else []) ≡ []
          → (if x then tables_cleared at peer b else if y then tables_after_command flow kept c b else b).full ≡ false → Awake (if x then tables_cleared at peer b else if y then tables_after_command flow kept c b else b)
      go true y e f full = cleared_awake b k
      go false false e f full = k
      go false true e f full =
          let before : b.full ≡ false = room_before at peer sent kept c b full in
          command_awake c b k (sym (ap (λ (x : Bool). if x then None else command_rule flow kept c b) before) ∙ unbroken (spoken_rule flow kept (Ok c) b) e)
          (sym (ap (λ (x : Bool). if x then [] else number_rules flow c b) before) ∙ map_none (broken_by context) (spoken_numbers flow (Ok c) b) f) full
        where
          unbroken : (o : Option Rule) → option_to_list (option_map (broken_by context) o) ≡ [] → o ≡ None
          unbroken None g = refl
          unbroken (Some r) g = absurd (cc g)

  items_awake : (items : List (Result Command CommandFault)) (v : View) (b : SeenTables) → Awake b → talked_findings context flow kept items v b ≡ [] → (after_talked context flow kept items v b).full ≡ false → Awake (after_talked context flow kept items v b)
  items_awake [] v b k none full = k
  items_awake (item ∷ items) v b k none full =
      let mid = after_flow context flow kept item v b in
      let next = after_item context item v in
      let p = parts (all_findings context flow kept item v b) (talked_findings context flow kept items next mid) none in
      items_awake items next mid (item_awake item v b k p.0 ((items_read at peer context kept items next mid).room full)) p.1 full

  -- ---- a message that is read

  left_awake : (room : Bool) (v : View) (b : SeenTables) → Awake b → Awake (after_left_out context flow room v b)
  left_awake room v b k = go (reports_omitted context room v b)
    where
      go : (x : Bool) → Awake (if x then after_all_said at peer b else b)
      go true = record {
        followed = k.followed;
        same = record { conns = k.same.conns; calm = any_fewer (λ one. not (is_admission at peer one)) b.known_facts k.same.calm };
        asked = stay_asked b (after_all_said at peer b) (stay_said at peer b) k.asked;
      }
      go false = k

  left_room : (room : Bool) (v : View) (b : SeenTables) → (after_left_out context flow room v b).full ≡ b.full
  left_room room v b = go (reports_omitted context room v b)
    where
      go : (x : Bool) → (if x then after_all_said at peer b else b).full ≡ b.full
      go true = refl
      go false = refl

  text_awake : (link : ℕ) (message : Message) (v : View) (b : SeenTables) → Awake b → b.full ≡ false → text_findings context flow link message v b ≡ [] → Awake (after_talked_text context flow link message v b)
  text_awake link message v b k room none = go (reaches context ItemKind.Text v) none
    where
      go : (x : Bool) → (if x then map (broken_by context) (text_rules flow link message b) else []) ≡ [] → Awake (if x then conn_tables_after_text flow link message b else b)
      go true e = record {
        followed = _;
        same = text_same flow link message b 0 k.followed k.same (text_led flow link message b (λ host on. none_suspended at peer host on b k.same.calm) room (map_none (broken_by context) (text_rules flow link message b) e));
        asked = stay_asked b (conn_tables_after_text flow link message b) (stay_text flow link message b) k.asked;
      }
      go false e = k

  read_awake : (message : Message) (v : View) (b : SeenTables) (reading : MessageClass) → Awake b → read_findings context flow kept message v b reading ≡ [] → (tables_after_read context flow kept message v b reading).full ≡ false
      → Awake (tables_after_read context flow kept message v b reading)
  read_awake message v b Stop k none full = k
  read_awake message v b Text k none full =
      text_awake message.leader.link message v b k ((read_reads at peer context kept Text message v b).room full) (parts (option_to_list (early_finding context ItemKind.Text v)) (text_findings context flow message.leader.link message v b) none).1
  read_awake message v b Control k none full =
      let items = items_said message.text in
      let room = shows_all message.text v in
      let next = after_items context items v in
      let mid = after_talked context flow kept items v b in
      let p = parts (talked_findings context flow kept items v b ++ option_to_list (missing_finding context room next)) (left_out_findings context flow kept room next mid) none in
      let q = parts (talked_findings context flow kept items v b) (option_to_list (missing_finding context room next)) p.0 in
      left_awake room next mid (items_awake items v b k q.0 (sym (left_room room next mid) ∙ full))

-- ---- a record

said_awake : (u : Monitor) (at peer by : ℕ) (sent fresh : Bool) (r : Result Message MessageFault) → Awake u.conn_tables → said_findings u at peer (turn_at u at peer by sent) fresh r ≡ []
    → (after_said u at peer (turn_at u at peer by sent) fresh r).conn_tables.full ≡ false → Awake (after_said u at peer (turn_at u at peer by sent) fresh r).conn_tables
said_awake u at peer by sent true (Ok m) k none full = read_awake at peer by sent (busy_link at peer u.kept) (knows_zero u at peer) u.kept m (view_of u at peer) u.conn_tables (message_class m) k none full
said_awake u at peer by sent false (Ok m) k none full = k
said_awake u at peer by sent fresh (Result.Err fault) k none full = k

-- what is said is all that changes the tables

out_tables : (u : Monitor) (at peer link : ℕ) (bits : List Bool) → (monitor_after_out u at peer link bits).conn_tables ≡ u.conn_tables
out_tables u at peer link bits = go u.full
  where
    now : Monitor
    now = record u {
      full = not (has_room u.kept (position_of at peer link u.kept));
      views = with_view u.views at peer (view_after_out (view_in u.views at peer) link (slot_of_link u at peer link) (same_of u at peer link bits));
      kept = with_out u.kept (position_of at peer link u.kept) (gone_out at peer link bits);
    }

    go : (b : Bool) → (if b then u else now).conn_tables ≡ u.conn_tables
    go true = refl
    go false = refl

in_tables : (u : Monitor) (at peer link : ℕ) → (after_in u at peer link).conn_tables ≡ u.conn_tables
in_tables u at peer link = go (judges_coming u at peer)
  where
    go : (b : Bool) → (if b then record u { kept = with_coming u.kept (position_of peer at link u.kept) } else u).conn_tables ≡ u.conn_tables
    go true = refl
    go false = refl

answer_tables : (u : Monitor) (kind at peer link : ℕ) → (monitor_after_answer u kind at peer link).conn_tables ≡ u.conn_tables
answer_tables u kind at peer link = go u.full
  where
    go : (b : Bool) → (if b then u else record u { kept = with_answer (view_in u.views at peer).known kind u.kept (position_of at peer link u.kept) }).conn_tables ≡ u.conn_tables
    go true = refl
    go false = refl

event_awake : (u : Monitor) (way : ImpDirection) (at : ℕ) (bits : List Bool) (happened : InterfaceEvent) → Awake u.conn_tables → event_findings u way at bits happened ≡ [] → (after_event u at bits happened).conn_tables.full ≡ false → Awake (after_event u at bits happened).conn_tables
event_awake u way at bits event.Short k none full = k
event_awake u way at bits event.Nothing k none full = k
event_awake u way at bits (event.Own kind link) k none full = k
event_awake u way at bits (event.Other kind) k none full = k
event_awake u way at bits (event.Answer kind peer link) k none full = subst (λ (b : SeenTables). Awake b) (sym (answer_tables u kind at peer link)) k
event_awake u way at bits (event.Out peer link) k none full =
    let after = monitor_after_out u at peer link bits in
    let context = turn_at after at peer at true in
    let fresh = fresh_out u at peer link bits in
    let p = parts (option_to_list (out_finding u at peer link bits)) (message_findings after at peer context fresh link bits) none in
    let q = parts (option_to_list (option_map (broken_by context) (rule_of_message (message_in bits) link (judged_bits (message_in bits) bits)))) (said_findings after at peer context fresh (message_in bits)) p.1 in
    said_awake after at peer at true fresh (message_in bits) (subst (λ (b : SeenTables). Awake b) (sym (out_tables u at peer link bits)) k) q.1 full
event_awake u way at bits (event.In peer link) k none full =
    let after = after_in u at peer link in
    let context = turn_at after at peer peer false in
    let p = parts (option_to_list (unsent_finding u at peer link bits)) (message_findings after at peer context true link bits) none in
    let q = parts (option_to_list (option_map (broken_by context) (rule_of_message (message_in bits) link (judged_bits (message_in bits) bits)))) (said_findings after at peer context true (message_in bits)) p.1 in
    said_awake after at peer peer false true (message_in bits) (subst (λ (b : SeenTables). Awake b) (sym (in_tables u at peer link)) k) q.1 full

event_room : (u : Monitor) (at : ℕ) (bits : List Bool) (happened : InterfaceEvent) → (after_event u at bits happened).conn_tables.full ≡ false → u.conn_tables.full ≡ false
event_room u at bits event.Short full = full
event_room u at bits event.Nothing full = full
event_room u at bits (event.Own kind link) full = full
event_room u at bits (event.Other kind) full = full
event_room u at bits (event.Answer kind peer link) full = ap (λ (b : SeenTables). b.full) (sym (answer_tables u kind at peer link)) ∙ full
event_room u at bits (event.Out peer link) full =
    let after = monitor_after_out u at peer link bits in ap (λ (b : SeenTables). b.full) (sym (out_tables u at peer link bits)) ∙ (said_reads after at peer at true (fresh_out u at peer link bits) (message_in bits)).room full
event_room u at bits (event.In peer link) full = let after = after_in u at peer link in ap (λ (b : SeenTables). b.full) (sym (in_tables u at peer link)) ∙ (said_reads after at peer peer false true (message_in bits)).room full

-- ---- a file

pub room_front : (u : Monitor) (file : List CaptureRecord) → (monitor_after_file u file).conn_tables.full ≡ false → u.conn_tables.full ≡ false
room_front u [] full = full
room_front u (one ∷ more) full = event_room (sees u one.0) one.0 one.2 (event_of one.1 one.0 one.2) (room_front (after_record u one.1 one.0 one.2) more full)

pub stays_awake : (file : List CaptureRecord) (u : Monitor) → Awake u.conn_tables → findings_in u file ≡ [] → (monitor_after_file u file).conn_tables.full ≡ false → Awake (monitor_after_file u file).conn_tables
stays_awake [] u k none full = k
stays_awake (one ∷ more) u k none full =
    let after = after_record u one.1 one.0 one.2 in
    let p = parts (record_findings u one.1 one.0 one.2) (findings_in after more) none in
    stays_awake more after (event_awake (sees u one.0) one.1 one.0 one.2 (event_of one.1 one.0 one.2) (numbered u.conn_tables k) p.0 (room_front after more full)) p.1 full
