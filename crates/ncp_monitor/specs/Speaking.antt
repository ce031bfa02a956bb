-- The rules of commands on the control link while two hosts are up with each other: requests and CLS, ECO
-- and ERP, ERR; and what a host left out. Commands that name a link are not judged here.
use Rattle.std.specs.Prelude.{ℕ, ◌==◌, not, ◌&&◌, Bool, true, false, List, [], ◌++◌, Option, None, Some, option_map, Result, Ok, if◌then◌else◌}
use Rattle.std.specs.declared.result.Result.TheVariants.{Err as Fault}
use Rattle.std.specs.List.{filter, position}
use Rattle.std.specs.Option.{option_to_list}
use Rattle.ncp_wire.specs.declared.command.Command.{Command}
use Rattle.ncp_wire.specs.declared.command.Command.TheVariants.{Rts, Str, Cls, All, Gvb, Ret, Inr, Ins, Eco, Erp, Err}
use Rattle.ncp_wire.specs.declared.fault.CommandFault.{CommandFault}
use Rattle.ncp_monitor.specs.declared.pending_reply.PendingReply.{PendingReply}
use Rattle.ncp_monitor.specs.declared.pending_reply.ExpectedReply.TheVariants as wanted
use Rattle.ncp_monitor.specs.declared.finding.Rule.{Rule}
use Rattle.ncp_monitor.specs.declared.finding.Rule.TheVariants as rule
use Rattle.ncp_interface.specs.declared.sent_message.SentMessage.{SentMessage}
use Rattle.ncp_monitor.specs.declared.conn_state.ConnState.{ConnState}
use Rattle.ncp_interface.specs.declared.request.Request.{Request}
use Rattle.ncp_interface.specs.declared.request.Request.TheVariants.{Link, Size}
use Rattle.ncp_monitor.specs.declared.conn_state.Fact.{Fact}
use Rattle.ncp_monitor.specs.declared.conn_state.FactKind.{FactKind}
use Rattle.ncp_monitor.specs.declared.conn_state.FactKind.TheVariants as fact_kind
use Rattle.ncp_monitor.specs.declared.observed_flow.ObservedFlow.{ObservedFlow}
use Rattle.ncp_monitor.specs.declared.observed_flow.Acceptance.{Acceptance}
use Rattle.ncp_monitor.specs.declared.observed_flow.Acceptance.TheVariants.{Right, Refused, Unclear}
use Rattle.ncp_monitor.specs.ConnStates.{SeenTables, is_conn_between, is_marked, conn_found, conn_of, facts_now, facts_no_more}
use Rattle.ncp_interface.specs.Sockets.{is_senders, is_of_sexes}
pub use Rattle.ncp_monitor.specs.Replies.{reply_rule, after_reply}
use Rattle.ncp_monitor.specs.Replies.{is_due_of, reply_wanted, due_at, owes, fault_wanted}
use Rattle.ncp_monitor.specs.Requests.{broken, request_acceptance, tables_after_request, cls_acceptance, cls_rule, after_cls, is_link_busy}
use Rattle.ncp_monitor.specs.Allocation.{from_receiver, from_sender, link_rule, number_rules, after_link, ends_returns}
use Rattle.ncp_monitor.specs.Texts.{is_error_admitted, text_left_out}

-- ---- requests: which socket is the host's

abbrev pub here_of : ObservedFlow → ℕ → ℕ → ℕ
here_of flow own others = if flow.sent then own else others

abbrev pub there_of : ObservedFlow → ℕ → ℕ → ℕ
there_of flow own others = if flow.sent then others else own

-- a request for a connection between a socket of its source and one of its destination
abbrev pub asking_acceptance : ObservedFlow → Command → ℕ → ℕ → Bool → Request → SeenTables → Acceptance
asking_acceptance flow c own others right request conn_tables = request_acceptance flow c (here_of flow own others) (there_of flow own others) right request conn_tables

abbrev pub tables_after_asking : ObservedFlow → Command → ℕ → ℕ → Bool → Request → SeenTables → SeenTables
tables_after_asking flow c own others right request conn_tables =
    tables_after_request flow c (here_of flow own others) (there_of flow own others) request (asking_acceptance flow c own others right request conn_tables) conn_tables

abbrev pub closing_acceptance : ObservedFlow → Command → ℕ → ℕ → SeenTables → Acceptance
closing_acceptance flow c my your conn_tables = cls_acceptance flow c (here_of flow my your) (there_of flow my your) conn_tables

abbrev pub closing_rule : ObservedFlow → Command → ℕ → ℕ → List SentMessage → SeenTables → Option Rule
closing_rule flow c my your kept conn_tables = cls_rule flow c (here_of flow my your) (there_of flow my your) kept conn_tables (closing_acceptance flow c my your conn_tables)

-- ---- ECO and ERP

-- an ECO of the source has no ERP yet; unknown if its echoes are suspended
abbrev pub is_asking : ObservedFlow → SeenTables → Bool
is_asking flow conn_tables =
    is_marked flow.at flow.peer (fact_kind.Asks flow.sent) conn_tables && not (is_marked flow.at flow.peer (fact_kind.EchoesRest flow.sent) conn_tables)

abbrev pub eco_rule : ObservedFlow → ℕ → SeenTables → Option Rule
eco_rule flow byte conn_tables = if is_asking flow conn_tables then Some (rule.EcoAgain byte) else None

abbrev pub after_eco : ObservedFlow → ℕ → SeenTables → SeenTables
after_eco flow byte conn_tables = owes flow (wanted.Echo byte) true (facts_now flow.at flow.peer (fact_kind.Asks flow.sent) conn_tables)

-- an ERP answers the other side's ECO, regardless of its byte; if no ECO was observed, one may be in
-- flight
abbrev pub answers_echo : ObservedFlow → SeenTables → SeenTables
answers_echo flow conn_tables =
    if is_marked flow.at flow.peer (fact_kind.Asks (not flow.sent)) conn_tables then facts_no_more flow.at flow.peer (fact_kind.Asks (not flow.sent)) conn_tables
    else facts_now flow.at flow.peer (fact_kind.EchoesRest (not flow.sent)) conn_tables

-- ---- replies

abbrev pub error_rule : ObservedFlow → ℕ → List ℕ → SeenTables → Option Rule
error_rule flow code bytes conn_tables = if is_error_admitted flow code bytes conn_tables then None else reply_rule flow (Err code bytes) (rule.ErrUnjust code bytes) conn_tables

abbrev pub after_error : ObservedFlow → ℕ → List ℕ → SeenTables → SeenTables
after_error flow code bytes conn_tables = if is_error_admitted flow code bytes conn_tables then conn_tables else after_reply flow (Err code bytes) conn_tables

-- ---- CLS

-- the effect of an accepted CLS besides closing its side: a sender no longer owes a RET, and the host's
-- outstanding text may find no connection
abbrev pub after_right_cls : ObservedFlow → List SentMessage → Option ConnState → Acceptance → SeenTables → SeenTables
after_right_cls flow kept conn Right conn_tables = ends_returns flow conn (text_left_out flow kept conn conn_tables)
after_right_cls flow kept conn (Refused wrong) conn_tables = conn_tables
after_right_cls flow kept conn (Unclear wrong) conn_tables = conn_tables

abbrev pub tables_after_closing : ObservedFlow → List SentMessage → Command → ℕ → ℕ → SeenTables → SeenTables
tables_after_closing flow kept c my your conn_tables =
    let acceptance = closing_acceptance flow c my your conn_tables in
    after_right_cls flow kept (conn_of flow.at flow.peer (here_of flow my your) (there_of flow my your) conn_tables.conns) acceptance
    (after_cls flow c (here_of flow my your) (there_of flow my your) acceptance conn_tables)

-- ---- commands, and faults of a control text

abbrev pub command_rule : ObservedFlow → List SentMessage → Command → SeenTables → Option Rule
command_rule flow kept (Rts receive send link) conn_tables = broken (asking_acceptance flow (Rts receive send link) receive send (is_of_sexes receive send) (Link link) conn_tables)
command_rule flow kept (Str send receive size) conn_tables = broken (asking_acceptance flow (Str send receive size) send receive (is_of_sexes receive send) (Size size) conn_tables)
command_rule flow kept (Cls my your) conn_tables = closing_rule flow (Cls my your) my your kept conn_tables
command_rule flow kept (Eco byte) conn_tables = eco_rule flow byte conn_tables
command_rule flow kept (Erp byte) conn_tables = reply_rule flow (Erp byte) (rule.ErpUnasked byte) conn_tables
command_rule flow kept (Err code bytes) conn_tables = error_rule flow code bytes conn_tables
command_rule flow kept (All link messages bits) conn_tables = link_rule flow (All link messages bits) (from_receiver flow link) conn_tables
command_rule flow kept (Gvb link messages bits) conn_tables = link_rule flow (Gvb link messages bits) (from_receiver flow link) conn_tables
command_rule flow kept (Ret link messages bits) conn_tables = link_rule flow (Ret link messages bits) (from_sender flow link) conn_tables
command_rule flow kept (Inr link) conn_tables = link_rule flow (Inr link) (from_receiver flow link) conn_tables
command_rule flow kept (Ins link) conn_tables = link_rule flow (Ins link) (from_sender flow link) conn_tables
command_rule flow kept c conn_tables = None

abbrev pub tables_after_command : ObservedFlow → List SentMessage → Command → SeenTables → SeenTables
tables_after_command flow kept (Rts receive send link) conn_tables = tables_after_asking flow (Rts receive send link) receive send (is_of_sexes receive send) (Link link) conn_tables
tables_after_command flow kept (Str send receive size) conn_tables = tables_after_asking flow (Str send receive size) send receive (is_of_sexes receive send) (Size size) conn_tables
tables_after_command flow kept (Cls my your) conn_tables = tables_after_closing flow kept (Cls my your) my your conn_tables
tables_after_command flow kept (Eco byte) conn_tables = after_eco flow byte conn_tables
tables_after_command flow kept (Erp byte) conn_tables = answers_echo flow (after_reply flow (Erp byte) conn_tables)
tables_after_command flow kept (Err code bytes) conn_tables = after_error flow code bytes conn_tables
tables_after_command flow kept (All link messages bits) conn_tables = after_link flow kept (All link messages bits) (from_receiver flow link) conn_tables
tables_after_command flow kept (Gvb link messages bits) conn_tables = after_link flow kept (Gvb link messages bits) (from_receiver flow link) conn_tables
tables_after_command flow kept (Ret link messages bits) conn_tables = after_link flow kept (Ret link messages bits) (from_sender flow link) conn_tables
tables_after_command flow kept (Inr link) conn_tables = after_link flow kept (Inr link) (from_receiver flow link) conn_tables
tables_after_command flow kept (Ins link) conn_tables = after_link flow kept (Ins link) (from_sender flow link) conn_tables
tables_after_command flow kept c conn_tables = conn_tables

-- nothing is judged once the tables are marked as full
abbrev pub spoken_rule : ObservedFlow → List SentMessage → Result Command CommandFault → SeenTables → Option Rule
spoken_rule flow kept (Ok c) conn_tables = if conn_tables.full then None else command_rule flow kept c conn_tables
spoken_rule flow kept (Fault fault) conn_tables = None

-- and those of a RET's numbers
abbrev pub spoken_numbers : ObservedFlow → Result Command CommandFault → SeenTables → List Rule
spoken_numbers flow (Ok c) conn_tables = if conn_tables.full then [] else number_rules flow c conn_tables
spoken_numbers flow (Fault fault) conn_tables = []

-- a fault is answered by an ERR with its code and its bytes
abbrev pub after_spoken : ObservedFlow → List SentMessage → Result Command CommandFault → SeenTables → SeenTables
after_spoken flow kept (Ok c) conn_tables = tables_after_command flow kept c conn_tables
after_spoken flow kept (Fault fault) conn_tables = owes flow (fault_wanted fault) true conn_tables

-- ---- commands left out of a control message with room for one more

-- a CLS: the peer has closed, and no text of the host is outstanding (as a sender) or none has arrived
-- (as a receiver)
abbrev pub lacks_cls : ℕ → ℕ → List SentMessage → ConnState → Bool
lacks_cls at peer kept conn =
    is_conn_between at peer conn && not conn.suspended && conn.peer_left && not conn.host_left
    && (if is_senders conn.local then not (is_link_busy at peer conn.link kept) else not conn.came)

abbrev pub is_owed : ℕ → ℕ → PendingReply → Bool
is_owed at peer due = is_due_of at peer true due && due.mandatory

-- the first reply that it owes, and the first CLS

abbrev pub reply_at : List PendingReply → Option ℕ → Option Command
reply_at pending_replies None = None
reply_at pending_replies (Some place) = Some (reply_wanted (due_at pending_replies place).wanted)

abbrev pub reply_left_out : ℕ → ℕ → SeenTables → Option Command
reply_left_out at peer conn_tables = reply_at conn_tables.pending_replies (position (is_owed at peer) conn_tables.pending_replies)

abbrev pub cls_of : ConnState → Command
cls_of conn = Cls conn.local conn.remote

abbrev pub cls_left_out : ℕ → ℕ → List SentMessage → SeenTables → Option Command
cls_left_out at peer kept conn_tables = option_map cls_of (conn_found conn_tables.conns (position (lacks_cls at peer kept) conn_tables.conns))

abbrev pub left_out : ℕ → ℕ → List SentMessage → SeenTables → List Command
left_out at peer kept conn_tables = option_to_list (reply_left_out at peer conn_tables) ++ option_to_list (cls_left_out at peer kept conn_tables)

-- an ERR of the host about a text is admitted
abbrev pub is_admission_of : FactKind → Bool
is_admission_of (fact_kind.Admits host bytes) = host
is_admission_of what = false

abbrev pub is_admission : ℕ → ℕ → Fact → Bool
is_admission at peer one = one.at == at && one.peer == peer && is_admission_of one.fact_kind

-- no reply of the host is still queued
abbrev pub after_all_said : ℕ → ℕ → SeenTables → SeenTables
after_all_said at peer conn_tables = record conn_tables {
  pending_replies = filter (λ due. not (is_due_of at peer true due)) conn_tables.pending_replies;
  known_facts = filter (λ one. not (is_admission at peer one)) conn_tables.known_facts;
}
