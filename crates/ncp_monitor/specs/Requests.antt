-- The rules of RTS, STR and CLS (NIC 8246). That each side asks once for a connection, and that a link
-- serves one connection, are this project's own rules (its profile). If the host may have acted on
-- something that was not observed, the connection is suspended: nothing is judged of it until the next
-- reset, and it is unknown whether a request for it is refused.
use Rattle.std.specs.Prelude.{ℕ, ◌==◌, not, ◌&&◌, ◌||◌, nat_le, Bool, true, false, List, Option, None, Some, if◌then◌else◌}
use Rattle.std.specs.List.{list_any, remove}
use Rattle.ncp_wire.specs.declared.command.Command.{Command}
use Rattle.ncp_monitor.specs.declared.finding.Rule.{Rule}
use Rattle.ncp_monitor.specs.declared.finding.Rule.TheVariants as rule
use Rattle.ncp_interface.specs.declared.sent_message.SentMessage.{SentMessage}
use Rattle.ncp_monitor.specs.declared.conn_state.ConnState.{ConnState}
use Rattle.ncp_interface.specs.declared.request.Request.{Request}
use Rattle.ncp_interface.specs.declared.request.Request.TheVariants.{Link, Size}
use Rattle.ncp_monitor.specs.declared.conn_state.FactKind.TheVariants as fact_kind
use Rattle.ncp_monitor.specs.declared.observed_flow.ObservedFlow.{ObservedFlow}
use Rattle.ncp_monitor.specs.declared.observed_flow.Acceptance.{Acceptance}
use Rattle.ncp_monitor.specs.declared.observed_flow.Acceptance.TheVariants.{Right, Refused, Unclear}
use Rattle.ncp_monitor.specs.ConnStates.{SeenTables, unasked_conn, has_sent_cls, with_cls_sent, has_sent_request, with_request_sent, conn_at_index, index_with_sockets, conn_of, user_of, is_marked, put_conn, link_suspended_now, suspended_pair}
use Rattle.ncp_interface.specs.Sockets.{is_senders, is_of_sexes}
use Rattle.ncp_monitor.specs.Replies.{owes, error_wanted}
use Rattle.ncp_interface.specs.Slots.{is_busy_on}

-- the rule that an acceptance shows broken
abbrev pub broken : Acceptance → Option Rule
broken Right = None
broken (Refused rule) = Some rule
broken (Unclear rule) = rule

-- ---- requests

-- links 2 to 71 are for connections; a byte has at least one bit
abbrev pub range_rule : Command → Request → Option Rule
range_rule c (Link link) = if nat_le 2 link && nat_le link 71 then None else Some (rule.LinkRange c)
range_rule c (Size size) = if size == 0 then Some (rule.SizeZero c) else None

-- the requested link is suspended
abbrev pub link_suspended : ObservedFlow → Request → SeenTables → Bool
link_suspended flow (Link link) conn_tables = is_marked flow.at flow.peer (fact_kind.LinkSuspended flow.sent link) conn_tables
link_suspended flow (Size size) conn_tables = false

-- another connection has the link; if its receiver sent a CLS, that connection may be over at the other
-- side
abbrev pub used_acceptance : ObservedFlow → Command → Option ConnState → Acceptance
used_acceptance flow c None = Right
used_acceptance flow c (Some user) =
    let used = rule.LinkUsed c user.local user.remote in if has_sent_cls user flow.sent then Unclear (Some used) else Refused used

abbrev pub link_acceptance : ObservedFlow → Command → Request → SeenTables → Acceptance
link_acceptance flow c (Link link) conn_tables = used_acceptance flow c (user_of flow.at flow.peer flow.sent link conn_tables.conns)
link_acceptance flow c (Size size) conn_tables = Right

-- a second request of the side, or one after its CLS: in the second case the connection may be over at
-- the other side
abbrev pub conn_acceptance : ObservedFlow → Command → Request → SeenTables → Option ConnState → Acceptance
conn_acceptance flow c request conn_tables None = link_acceptance flow c request conn_tables
conn_acceptance flow c request conn_tables (Some conn) =
    if conn.suspended then Unclear None
    else if has_sent_cls conn flow.sent then Unclear (Some (rule.Unended c conn.since))
    else if has_sent_request conn request then Refused (rule.AskedAgain c conn.since)
    else link_acceptance flow c request conn_tables

abbrev pub unrested_acceptance : ObservedFlow → Command → ℕ → ℕ → Request → SeenTables → Acceptance
unrested_acceptance flow c local remote request conn_tables =
    if link_suspended flow request conn_tables then Unclear None
    else conn_acceptance flow c request conn_tables (conn_of flow.at flow.peer local remote conn_tables.conns)

abbrev pub ranged_acceptance : ObservedFlow → Command → ℕ → ℕ → Request → SeenTables → Option Rule → Acceptance
ranged_acceptance flow c local remote request conn_tables (Some wrong) = Refused wrong
ranged_acceptance flow c local remote request conn_tables None = unrested_acceptance flow c local remote request conn_tables

-- a request for a connection between a socket of the host and one of the peer
abbrev pub request_acceptance : ObservedFlow → Command → ℕ → ℕ → Bool → Request → SeenTables → Acceptance
request_acceptance flow c local remote right request conn_tables =
    if not right then Refused (rule.Sex c) else ranged_acceptance flow c local remote request conn_tables (range_rule c request)

-- the requested link is suspended from now on
abbrev pub suspended_asked : ObservedFlow → Request → SeenTables → SeenTables
suspended_asked flow (Link link) conn_tables = link_suspended_now flow.at flow.peer flow.sent link conn_tables
suspended_asked flow (Size size) conn_tables = conn_tables

-- the side has asked
abbrev pub asks : ObservedFlow → ℕ → ℕ → Request → SeenTables → Option ℕ → SeenTables
asks flow local remote request conn_tables None = put_conn conn_tables None (with_request_sent (record (unasked_conn flow.at flow.peer local remote) { since = conn_tables.number }) request)
asks flow local remote request conn_tables (Some place) = put_conn conn_tables (Some place) (with_request_sent (conn_at_index conn_tables.conns place) request)

-- the tables after a request; an ERR about it has code 3
abbrev pub tables_after_request : ObservedFlow → Command → ℕ → ℕ → Request → Acceptance → SeenTables → SeenTables
tables_after_request flow c local remote request Right conn_tables = asks flow local remote request conn_tables (index_with_sockets flow.at flow.peer local remote conn_tables.conns)
tables_after_request flow c local remote request (Refused wrong) conn_tables = owes flow (error_wanted 3 3 c) true conn_tables
tables_after_request flow c local remote request (Unclear wrong) conn_tables =
    owes flow (error_wanted 3 3 c) false (suspended_asked flow request (suspended_pair flow.at flow.peer local remote conn_tables))

-- ---- CLS

abbrev pub left_acceptance : ObservedFlow → Command → Option ConnState → Acceptance
left_acceptance flow c None = Unclear (Some (rule.ClsUnknown c))
left_acceptance flow c (Some conn) =
    if conn.suspended then Unclear None else if has_sent_cls conn flow.sent then Unclear (Some (rule.ClsAgain c conn.since)) else Right

abbrev pub cls_acceptance : ObservedFlow → Command → ℕ → ℕ → SeenTables → Acceptance
cls_acceptance flow c local remote conn_tables =
    if is_of_sexes local remote || is_of_sexes remote local then left_acceptance flow c (conn_of flow.at flow.peer local remote conn_tables.conns)
    else Refused (rule.Sex c)

abbrev pub is_link_busy : ℕ → ℕ → Option ℕ → List SentMessage → Bool
is_link_busy at peer None kept = false
is_link_busy at peer (Some link) kept = list_any (is_busy_on at peer link) kept

-- a sending host closes while a text of it is outstanding; if the link is suspended, the text may be of
-- another connection
abbrev pub link_out_rule : ObservedFlow → Command → List SentMessage → SeenTables → Option ℕ → Option Rule
link_out_rule flow c kept conn_tables None = None
link_out_rule flow c kept conn_tables (Some link) =
    if list_any (is_busy_on flow.at flow.peer link) kept && not (is_marked flow.at flow.peer (fact_kind.LinkSuspended false link) conn_tables) then Some (rule.TextOut c link) else None

abbrev pub text_out_rule : ObservedFlow → Command → List SentMessage → SeenTables → Option ConnState → Option Rule
text_out_rule flow c kept conn_tables None = None
text_out_rule flow c kept conn_tables (Some conn) = if flow.sent && is_senders conn.local then link_out_rule flow c kept conn_tables conn.link else None

abbrev pub cls_rule : ObservedFlow → Command → ℕ → ℕ → List SentMessage → SeenTables → Acceptance → Option Rule
cls_rule flow c local remote kept conn_tables Right = text_out_rule flow c kept conn_tables (conn_of flow.at flow.peer local remote conn_tables.conns)
cls_rule flow c local remote kept conn_tables (Refused wrong) = Some wrong
cls_rule flow c local remote kept conn_tables (Unclear wrong) = wrong

-- the second CLS removes the connection
abbrev pub closes_side : ObservedFlow → SeenTables → Option ℕ → SeenTables
closes_side flow conn_tables None = conn_tables
closes_side flow conn_tables (Some place) =
    let conn = with_cls_sent (conn_at_index conn_tables.conns place) flow.sent in
    if conn.host_left && conn.peer_left then record conn_tables { conns = remove conn_tables.conns place } else put_conn conn_tables (Some place) conn

abbrev pub after_cls : ObservedFlow → Command → ℕ → ℕ → Acceptance → SeenTables → SeenTables
after_cls flow c local remote Right conn_tables = closes_side flow conn_tables (index_with_sockets flow.at flow.peer local remote conn_tables.conns)
after_cls flow c local remote (Refused wrong) conn_tables = owes flow (error_wanted 3 3 c) true conn_tables
after_cls flow c local remote (Unclear wrong) conn_tables = owes flow (error_wanted 4 3 c) false (suspended_pair flow.at flow.peer local remote conn_tables)
