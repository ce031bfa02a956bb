-- What is said is judged alike by both: of the stored messages the rules read only which links are busy, and with which message.
use Rattle.std.proofs.Common.{◌≡◌, ℕ, ◌+◌, ltb, Bool, false, cond, not, ◌&&◌, if◌then◌else◌, List, [], ◌∷◌, ◌++◌, length, Option, None, Some, option_map, option_to_list, position, Result, Ok, refl, ap, ◌∙◌}
use Rattle.std.specs.declared.result.Result.TheVariants.{Err as Fault}
use Rattle.std.specs.List.{list_any, position_or_len}
use Rattle.ncp_wire.specs.declared.command.Command.{Command}
use Rattle.ncp_wire.specs.declared.command.Command.TheVariants.{Nop, Rts, Str, Cls, All, Gvb, Ret, Inr, Ins, Eco, Erp, Err, Rst, Rrp}
use Rattle.ncp_wire.specs.declared.fault.CommandFault.{CommandFault}
use Rattle.ncp_leader.specs.Message.{Message, message_in}
use Rattle.ncp_monitor.specs.declared.finding.Finding.{Finding}
use Rattle.ncp_monitor.specs.declared.finding.Rule.{Rule}
use Rattle.ncp_monitor.specs.declared.finding.Rule.TheVariants as rule
use Rattle.ncp_monitor.specs.declared.conn_state.ConnState.{ConnState}
use Rattle.ncp_monitor.specs.declared.conn_state.FactKind.TheVariants as fact_kind
use Rattle.ncp_monitor.specs.declared.link_target.LinkTarget.{LinkTarget}
use Rattle.ncp_monitor.specs.declared.link_target.LinkTarget.TheVariants as target
use Rattle.ncp_monitor.specs.declared.link_target.ReceiveLink.{ReceiveLink}
use Rattle.ncp_interface.specs.declared.message_class.MessageClass.{MessageClass}
use Rattle.ncp_interface.specs.declared.message_class.MessageClass.TheVariants.{Stop, Text, Control}
use Rattle.ncp_monitor.specs.declared.observed_flow.Acceptance.{Acceptance}
use Rattle.ncp_monitor.specs.declared.observed_flow.Acceptance.TheVariants.{Right, Refused, Unclear}
use Rattle.ncp_monitor.specs.declared.observed_flow.ObservedFlow.{ObservedFlow}
use Rattle.ncp_monitor.specs.declared.phase.MessageContext.{MessageContext}
use Rattle.ncp_interface.specs.declared.sent_message.SentMessage.{SentMessage}
use Rattle.ncp_monitor.specs.declared.view.View.{View}
use Rattle.ncp_monitor.specs.Acts.{act_of}
use Rattle.ncp_interface.specs.Slots.{is_slot_empty, is_of, position_of, kept_at, is_busy_on}
use Rattle.ncp_monitor.specs.ConnStates.{SeenTables, conn_of, conn_at_index, conn_found, is_conn_between, is_marked, has_sent_cls, put_conn, tables_cleared}
use Rattle.ncp_interface.specs.Sockets.{is_senders}
use Rattle.ncp_monitor.specs.Requests.{is_link_busy, link_out_rule, text_out_rule, cls_rule, after_cls}
use Rattle.ncp_monitor.specs.Replies.{owes}
use Rattle.ncp_monitor.specs.Allocation.{asked_back, owes_return, owes_error_if, recalled, after_open, demuxed_after, after_link, target_on, from_receiver, from_sender, ends_returns}
use Rattle.ncp_monitor.specs.Texts.{admits_out, message_out_at, text_left_out}
use Rattle.ncp_monitor.specs.Speaking.{here_of, there_of, closing_acceptance, command_rule, spoken_rule, after_right_cls, tables_after_command, after_spoken, lacks_cls, cls_of}
use Rattle.ncp_monitor.specs.Phases.{broken_by, item_findings, after_item, after_items, missing_finding}
use Rattle.ncp_monitor.specs.Talked.{act_reaches, clears, number_findings, after_flow, all_findings, talked_findings, after_talked, reports_omitted, missing, missing_reply, left_out_findings, after_left_out}
use Rattle.ncp_monitor.specs.Judged.{shows_all, control_findings, read_findings, tables_after_read}
use Rattle.ncp_interface.specs.Contents.{items_said}
use Rattle.ncp_proof_interface_resets.proofs.Near.{NearAll, near_empty, agrees_of, agrees_busy_on, near_position, near_any, near_at}

-- the first that passes one of two tests that agree
first_same : {X : Type 0} (p q : X → Bool) → ((x : X) → p x ≡ q x) → (xs : List X) → position_or_len p xs ≡ position_or_len q xs
first_same p q e [] = refl
first_same p q e (x ∷ xs) = ap (λ (b : Bool). cond (not b) (1 + position_or_len p xs) 0) (e x) ∙ ap (λ (i : ℕ). cond (not (q x)) (1 + i) 0) (first_same p q e xs)

position_same : {X : Type 0} (p q : X → Bool) → ((x : X) → p x ≡ q x) → (xs : List X) → position p xs ≡ position q xs
position_same p q e xs = ap (λ (i : ℕ). cond (ltb i (length xs)) (Some i) None) (first_same p q e xs)

module _ (me : ℕ) (ks ls : List SentMessage) (near : NearAll me ks ls) where
  busy : (at peer link : ℕ) → list_any (is_busy_on at peer link) ls ≡ list_any (is_busy_on at peer link) ks
  busy at peer link = near_any me (is_busy_on at peer link) (agrees_busy_on me at peer link) ks ls near

  link_busy : (at peer : ℕ) (link : Option ℕ) → is_link_busy at peer link ls ≡ is_link_busy at peer link ks
  link_busy at peer None = refl
  link_busy at peer (Some link) = busy at peer link

  place : (from to link : ℕ) → position_of from to link ls ≡ position_of from to link ks
  place from to link = near_position me (is_of from to link) (agrees_of me from to link) ks ls near

  -- ---- the rule of a command

  link_out : (flow : ObservedFlow) (c : Command) (b : SeenTables) (link : Option ℕ) → link_out_rule flow c ls b link ≡ link_out_rule flow c ks b link
  link_out flow c b None = refl
  link_out flow c b (Some link) =
      ap (λ (x : Bool). if x && not (is_marked flow.at flow.peer (fact_kind.LinkSuspended false link) b) then Some (rule.TextOut c link) else None) (busy flow.at flow.peer link)

  text_out : (flow : ObservedFlow) (c : Command) (b : SeenTables) (conn : Option ConnState) → text_out_rule flow c ls b conn ≡ text_out_rule flow c ks b conn
  text_out flow c b None = refl
  text_out flow c b (Some conn) = ap (λ (x : Option Rule). if flow.sent && is_senders conn.local then x else None) (link_out flow c b conn.link)

  closes : (flow : ObservedFlow) (c : Command) (local remote : ℕ) (b : SeenTables) (r : Acceptance) → cls_rule flow c local remote ls b r ≡ cls_rule flow c local remote ks b r
  closes flow c local remote b Right = text_out flow c b (conn_of flow.at flow.peer local remote b.conns)
  closes flow c local remote b (Refused wrong) = refl
  closes flow c local remote b (Unclear wrong) = refl

  command : (flow : ObservedFlow) (c : Command) (b : SeenTables) → command_rule flow ls c b ≡ command_rule flow ks c b
  command flow Nop b = refl
  command flow (Rts receive send link) b = refl
  command flow (Str send receive size) b = refl
  command flow (Cls my your) b = closes flow (Cls my your) (here_of flow my your) (there_of flow my your) b (closing_acceptance flow (Cls my your) my your b)
  command flow (All link messages bits) b = refl
  command flow (Gvb link messages bits) b = refl
  command flow (Ret link messages bits) b = refl
  command flow (Inr link) b = refl
  command flow (Ins link) b = refl
  command flow (Eco byte) b = refl
  command flow (Erp byte) b = refl
  command flow (Err code bytes) b = refl
  command flow Rst b = refl
  command flow Rrp b = refl

  spoken : (flow : ObservedFlow) (item : Result Command CommandFault) (b : SeenTables) → spoken_rule flow ls item b ≡ spoken_rule flow ks item b
  spoken flow (Ok c) b = ap (λ (x : Option Rule). if b.full then None else x) (command flow c b)
  spoken flow (Fault fault) b = refl

  -- ---- its effect

  returns : (flow : ObservedFlow) (link messages bits : ℕ) (conn : ConnState) (b : SeenTables) → owes_return flow ls link messages bits conn b ≡ owes_return flow ks link messages bits conn b
  returns flow link messages bits conn b =
      ap (λ (x : Bool). if has_sent_cls conn (not flow.sent) then b else owes flow (asked_back link messages bits conn) (not flow.sent && not x) b) (link_busy flow.at flow.peer (Some link))

  opened : (flow : ObservedFlow) (c : Command) (on : ReceiveLink) (at : ℕ) (b : SeenTables) → after_open flow ls c on at b ≡ after_open flow ks c on at b
  opened flow Nop on at b = refl
  opened flow (Rts receive send link) on at b = refl
  opened flow (Str send receive size) on at b = refl
  opened flow (Cls my your) on at b = refl
  opened flow (All link messages bits) on at b = refl
  opened flow (Gvb link messages bits) on at b =
      let conn = conn_at_index b.conns at in
      returns flow link messages bits conn (put_conn (owes_error_if conn.recall flow (Gvb link messages bits) b) (Some at) (recalled flow messages bits conn))
  opened flow (Ret link messages bits) on at b = refl
  opened flow (Inr link) on at b = refl
  opened flow (Ins link) on at b = refl
  opened flow (Eco byte) on at b = refl
  opened flow (Erp byte) on at b = refl
  opened flow (Err code bytes) on at b = refl
  opened flow Rst on at b = refl
  opened flow Rrp on at b = refl

  demuxed : (flow : ObservedFlow) (c : Command) (on : ReceiveLink) (b : SeenTables) (t : LinkTarget) → demuxed_after flow ls c on b t ≡ demuxed_after flow ks c on b t
  demuxed flow c on b target.Rests = refl
  demuxed flow c on b target.Nobody = refl
  demuxed flow c on b target.Closed = refl
  demuxed flow c on b (target.Unasked at) = refl
  demuxed flow c on b (target.Open at) = opened flow c on at b

  linked : (flow : ObservedFlow) (c : Command) (on : ReceiveLink) (b : SeenTables) → after_link flow ls c on b ≡ after_link flow ks c on b
  linked flow c on b = demuxed flow c on b (target_on flow on b)

  out_at : (flow : ObservedFlow) (b : SeenTables) (at : Option ℕ) → message_out_at flow ls at b ≡ message_out_at flow ks at b
  out_at flow b None = refl
  out_at flow b (Some at) =
      let n = near_at me ks ls near at in
      ap (λ (x : Bool). if x then b else admits_out flow (message_in (kept_at ls at).message) b) (near_empty me (kept_at ks at) (kept_at ls at) n)
      ∙ ap (λ (m : List Bool). if is_slot_empty (kept_at ks at).slot then b else admits_out flow (message_in m) b) n.message

  left_out_text : (flow : ObservedFlow) (b : SeenTables) (conn : Option ConnState) → text_left_out flow ls conn b ≡ text_left_out flow ks conn b
  left_out_text flow b None = refl
  left_out_text flow b (Some conn) = on conn.link
    where
      on : (link : Option ℕ) → text_left_out flow ls (Some (record conn { link = link })) b ≡ text_left_out flow ks (Some (record conn { link = link })) b
      on None = refl
      on (Some link) =
          ap (λ (x : SeenTables). if flow.sent && is_senders conn.local then x else b)
          (ap (λ (at : Option ℕ). message_out_at flow ls at b) (place flow.at flow.peer link) ∙ out_at flow b (position_of flow.at flow.peer link ks))

  right_cls : (flow : ObservedFlow) (conn : Option ConnState) (r : Acceptance) (b : SeenTables) → after_right_cls flow ls conn r b ≡ after_right_cls flow ks conn r b
  right_cls flow conn Right b = ap (ends_returns flow conn) (left_out_text flow b conn)
  right_cls flow conn (Refused wrong) b = refl
  right_cls flow conn (Unclear wrong) b = refl

  effect : (flow : ObservedFlow) (c : Command) (b : SeenTables) → tables_after_command flow ls c b ≡ tables_after_command flow ks c b
  effect flow Nop b = refl
  effect flow (Rts receive send link) b = refl
  effect flow (Str send receive size) b = refl
  effect flow (Cls my your) b =
      let r = closing_acceptance flow (Cls my your) my your b in
      right_cls flow (conn_of flow.at flow.peer (here_of flow my your) (there_of flow my your) b.conns) r (after_cls flow (Cls my your) (here_of flow my your) (there_of flow my your) r b)
  effect flow (All link messages bits) b = linked flow (All link messages bits) (from_receiver flow link) b
  effect flow (Gvb link messages bits) b = linked flow (Gvb link messages bits) (from_receiver flow link) b
  effect flow (Ret link messages bits) b = linked flow (Ret link messages bits) (from_sender flow link) b
  effect flow (Inr link) b = linked flow (Inr link) (from_receiver flow link) b
  effect flow (Ins link) b = linked flow (Ins link) (from_sender flow link) b
  effect flow (Eco byte) b = refl
  effect flow (Erp byte) b = refl
  effect flow (Err code bytes) b = refl
  effect flow Rst b = refl
  effect flow Rrp b = refl

  said : (flow : ObservedFlow) (item : Result Command CommandFault) (b : SeenTables) → after_spoken flow ls item b ≡ after_spoken flow ks item b
  said flow (Ok c) b = effect flow c b
  said flow (Fault fault) b = refl

  -- ---- the items of a control text

  module _ (context : MessageContext) (flow : ObservedFlow) where
    flows : (item : Result Command CommandFault) (view : View) (b : SeenTables) → after_flow context flow ls item view b ≡ after_flow context flow ks item view b
    flows item view b =
        ap (λ (x : SeenTables). if clears context (act_of item) view then tables_cleared flow.at flow.peer b else if act_reaches context (act_of item) view then x else b) (said flow item b)

    every : (item : Result Command CommandFault) (view : View) (b : SeenTables) → all_findings context flow ls item view b ≡ all_findings context flow ks item view b
    every item view b =
        ap (λ (o : Option Rule). item_findings context item view ++ option_to_list (if act_reaches context (act_of item) view then option_map (broken_by context) o else None) ++ number_findings context flow item view b)
        (spoken flow item b)

    talked : (items : List (Result Command CommandFault)) (view : View) (b : SeenTables) → talked_findings context flow ls items view b ≡ talked_findings context flow ks items view b
    talked [] view b = refl
    talked (item ∷ items) view b =
        let next = after_item context item view in
        ap (λ (xs : List Finding). xs ++ talked_findings context flow ls items next (after_flow context flow ls item view b)) (every item view b)
        ∙ ap (λ (t : SeenTables). all_findings context flow ks item view b ++ talked_findings context flow ls items next t) (flows item view b)
        ∙ ap (λ (xs : List Finding). all_findings context flow ks item view b ++ xs) (talked items next (after_flow context flow ks item view b))

    after_all : (items : List (Result Command CommandFault)) (view : View) (b : SeenTables) → after_talked context flow ls items view b ≡ after_talked context flow ks items view b
    after_all [] view b = refl
    after_all (item ∷ items) view b =
        let next = after_item context item view in
        ap (λ (t : SeenTables). after_talked context flow ls items next t) (flows item view b) ∙ after_all items next (after_flow context flow ks item view b)

    lacks : (conn : ConnState) → lacks_cls flow.at flow.peer ls conn ≡ lacks_cls flow.at flow.peer ks conn
    lacks conn =
        ap (λ (x : Bool). is_conn_between flow.at flow.peer conn && not conn.suspended && conn.peer_left && not conn.host_left && (if is_senders conn.local then not x else not conn.came))
        (link_busy flow.at flow.peer conn.link)

    omitted : (room : Bool) (view : View) (b : SeenTables) → left_out_findings context flow ls room view b ≡ left_out_findings context flow ks room view b
    omitted room view b =
        ap (λ (o : Option ℕ). option_to_list (missing_reply context flow room view b) ++ option_to_list (if reports_omitted context room view b then missing context (option_map cls_of (conn_found b.conns o)) else None))
        (position_same (lacks_cls flow.at flow.peer ls) (lacks_cls flow.at flow.peer ks) lacks b.conns)

    -- ---- a message

    control : (text : List Bool) (view : View) (b : SeenTables) → control_findings context flow ls text view b ≡ control_findings context flow ks text view b
    control text view b =
        let items = items_said text in
        let last = after_items context items view in
        let own = option_to_list (missing_finding context (shows_all text view) last) in
        ap (λ (xs : List Finding). xs ++ own ++ left_out_findings context flow ls (shows_all text view) last (after_talked context flow ls items view b)) (talked items view b)
        ∙ ap (λ (t : SeenTables). talked_findings context flow ks items view b ++ own ++ left_out_findings context flow ls (shows_all text view) last t) (after_all items view b)
        ∙ ap (λ (xs : List Finding). talked_findings context flow ks items view b ++ own ++ xs) (omitted (shows_all text view) last (after_talked context flow ks items view b))

    pub read_alike : (message : Message) (view : View) (b : SeenTables) (r : MessageClass) → read_findings context flow ls message view b r ≡ read_findings context flow ks message view b r
    read_alike message view b Stop = refl
    read_alike message view b Text = refl
    read_alike message view b Control = control message.text view b

    pub tables_alike : (message : Message) (view : View) (b : SeenTables) (r : MessageClass) → tables_after_read context flow ls message view b r ≡ tables_after_read context flow ks message view b r
    tables_alike message view b Stop = refl
    tables_alike message view b Text = refl
    tables_alike message view b Control =
        ap (λ (t : SeenTables). after_left_out context flow (shows_all message.text view) (after_items context (items_said message.text) view) t) (after_all (items_said message.text) view b)
