-- Texts on data links (NIC 8246, allocation). Each is on an open connection, of the byte size that its
-- sender asked for, and within the allocation. How a text that does not fit is treated is this project's
-- own rule (its profile). An ERR about a text may arrive in any order.
use Rattle.std.specs.Prelude.{ℕ, ◌-◌, ◌==◌, not, ◌&&◌, ◌||◌, nat_lt, nat_le, Bool, true, false, List, [], ◌∷◌, ◌++◌, length, take, replicate, Option, None, Some, Result, Ok, if◌then◌else◌}
use Rattle.std.specs.declared.result.Result.TheVariants.{Err as Fault}
use Rattle.std.specs.Option.{option_to_list}
use Rattle.ncp_numbers.specs.Bytes.{bytes_of}
use Rattle.ncp_leader.specs.declared.fault.MessageFault.{MessageFault}
use Rattle.ncp_leader.specs.Front.{front_bits}
use Rattle.ncp_leader.specs.Message.{Message, message_in}
use Rattle.ncp_monitor.specs.declared.finding.Rule.{Rule}
use Rattle.ncp_monitor.specs.declared.finding.Rule.TheVariants as rule
use Rattle.ncp_monitor.specs.declared.finding.Unopened.TheVariants as why
use Rattle.ncp_interface.specs.declared.sent_message.SentMessage.{SentMessage}
use Rattle.ncp_monitor.specs.declared.link_target.LinkTarget.{LinkTarget}
use Rattle.ncp_monitor.specs.declared.link_target.LinkTarget.TheVariants as target
use Rattle.ncp_monitor.specs.declared.conn_state.ConnState.{ConnState}
use Rattle.ncp_monitor.specs.declared.conn_state.FactKind.TheVariants as fact_kind
use Rattle.ncp_monitor.specs.declared.observed_flow.ObservedFlow.{ObservedFlow}
use Rattle.ncp_interface.specs.Slots.{position_of, kept_at, is_slot_empty}
use Rattle.ncp_monitor.specs.ConnStates.{SeenTables, has_sent_cls, conn_at_index, is_marked, put_conn, facts_now, link_suspended_now}
use Rattle.ncp_interface.specs.Sockets.{is_senders}
use Rattle.ncp_monitor.specs.Allocation.{target_by, is_receive_link_at_rest, index_on_receive_link, from_sender, is_any}

-- ---- the bytes of an ERR about a text

-- the first ten bytes of a message as received, with its source in the leader: leader, prefix, and the
-- first eight bits of the text, padded with zeros
abbrev pub text_shown : ℕ → Message → List ℕ
text_shown speaker message =
    bytes_of (front_bits (record message.leader { host = speaker }) message.size message.count ++ take 8 (message.text ++ replicate 8 false))

abbrev pub speaker_of : ObservedFlow → ℕ
speaker_of flow = if flow.sent then flow.at else flow.peer

-- the destination may give an ERR about a text
abbrev pub admits_error : ObservedFlow → Message → SeenTables → SeenTables
admits_error flow message conn_tables = facts_now flow.at flow.peer (fact_kind.Admits (not flow.sent) (text_shown (speaker_of flow) message)) conn_tables

-- an ERR about a command begins with the command's number; with the code for a socket or link that does
-- not exist, that is one of RTS to INS. A text's leader begins with zeros, its type, so no number of a
-- command is there.
abbrev pub shows_command : List ℕ → Bool
shows_command [] = false
shows_command (byte ∷ bytes) = nat_le 1 byte && nat_le byte 8

-- an ERR about a text is an admitted one
abbrev pub is_error_admitted : ObservedFlow → ℕ → List ℕ → SeenTables → Bool
is_error_admitted flow code bytes conn_tables = code == 5 && not (shows_command bytes) && is_marked flow.at flow.peer (fact_kind.Admits flow.sent bytes) conn_tables

-- ---- the target of a text

-- closed by its source; for a text of the host, also by the peer
abbrev pub is_closed_for : ObservedFlow → ConnState → Bool
is_closed_for flow conn = has_sent_cls conn flow.sent || (flow.sent && conn.peer_left)

abbrev pub text_target_at : ObservedFlow → List ConnState → Option ℕ → LinkTarget
text_target_at flow conns None = target.Nobody
text_target_at flow conns (Some place) = let conn = conn_at_index conns place in target_by (is_closed_for flow conn) conn place

abbrev pub text_target : ObservedFlow → ℕ → SeenTables → LinkTarget
text_target flow link conn_tables =
    let receive_link = from_sender flow link in
    if is_receive_link_at_rest flow receive_link conn_tables then target.Rests else text_target_at flow conn_tables.conns (index_on_receive_link flow receive_link conn_tables.conns)

-- ---- rules

abbrev pub size_rule : ℕ → ℕ → Option ℕ → Option Rule
size_rule link size None = None
size_rule link size (Some asked) = if size == asked then None else Some (rule.TextSize link size asked)

abbrev pub uses_too_much : ℕ → ConnState → Bool
uses_too_much bits conn = conn.messages == 0 || nat_lt conn.bits bits

abbrev pub over_text_rule : ℕ → ℕ → ConnState → Option Rule
over_text_rule link bits conn = if uses_too_much bits conn then Some (rule.TextOver link conn.messages bits conn.bits) else None

abbrev pub open_text_rules : ℕ → Message → ConnState → List Rule
open_text_rules link message conn = option_to_list (size_rule link message.size conn.size) ++ option_to_list (over_text_rule link (length message.text) conn)

abbrev pub demuxed_text_rules : ℕ → Message → SeenTables → LinkTarget → List Rule
demuxed_text_rules link message conn_tables target.Rests = []
demuxed_text_rules link message conn_tables target.Nobody = rule.TextNotOpen link why.NoPair ∷ []
demuxed_text_rules link message conn_tables target.Closed = rule.TextNotOpen link why.Closed ∷ []
demuxed_text_rules link message conn_tables (target.Unasked place) = rule.TextNotOpen link why.NotAsked ∷ []
demuxed_text_rules link message conn_tables (target.Open place) = open_text_rules link message (conn_at_index conn_tables.conns place)

-- nothing is judged once the tables are marked as full
abbrev pub text_rules : ObservedFlow → ℕ → Message → SeenTables → List Rule
text_rules flow link message conn_tables = if conn_tables.full then [] else demuxed_text_rules link message conn_tables (text_target flow link conn_tables)

-- ---- after a text

-- a text arrived on the link of its connection, unless the peer has closed that
abbrev pub conn_came_at : SeenTables → Option ℕ → SeenTables
conn_came_at conn_tables None = conn_tables
conn_came_at conn_tables (Some place) =
    let conn = conn_at_index conn_tables.conns place in if conn.peer_left then conn_tables else put_conn conn_tables (Some place) (record conn { came = true })

abbrev pub after_text_came : ObservedFlow → ℕ → SeenTables → SeenTables
after_text_came flow link conn_tables = if flow.sent then conn_tables else conn_came_at conn_tables (index_on_receive_link flow (from_sender flow link) conn_tables.conns)

-- the allocation that it uses is deducted
abbrev pub used : ℕ → ConnState → ConnState
used bits conn = record conn { messages = conn.messages - 1; bits = conn.bits - bits }

-- for a connection that is not open, an ERR is admitted; if no connection has the link, or the source
-- closed the one that has it, a queued RTS may give the link to another
abbrev pub text_suspended : ObservedFlow → ℕ → SeenTables → SeenTables
text_suspended flow link conn_tables = link_suspended_now flow.at flow.peer (not flow.sent) link conn_tables

abbrev pub admits_error_if : Bool → ObservedFlow → Message → SeenTables → SeenTables
admits_error_if wrong flow message conn_tables = if wrong then admits_error flow message conn_tables else conn_tables

-- if the peer breaks a rule on an open connection, the host may have stored a text that the peer was not
-- allowed to send, or an ALL of the host may be queued
abbrev pub over_suspended : Bool → ObservedFlow → ℕ → SeenTables → SeenTables
over_suspended wrong flow link conn_tables = if wrong && not flow.sent then text_suspended flow link conn_tables else conn_tables

abbrev pub demuxed_after_text : ObservedFlow → ℕ → Message → SeenTables → LinkTarget → SeenTables
demuxed_after_text flow link message conn_tables target.Rests = admits_error flow message (after_text_came flow link conn_tables)
demuxed_after_text flow link message conn_tables target.Nobody = admits_error flow message (text_suspended flow link conn_tables)
demuxed_after_text flow link message conn_tables target.Closed = admits_error flow message (text_suspended flow link conn_tables)
demuxed_after_text flow link message conn_tables (target.Unasked place) = admits_error flow message (after_text_came flow link conn_tables)
demuxed_after_text flow link message conn_tables (target.Open place) =
    let conn = conn_at_index conn_tables.conns place in
    admits_error_if (is_any (open_text_rules link message conn)) flow message
    (over_suspended (is_any (open_text_rules link message conn)) flow link
    (after_text_came flow link (put_conn conn_tables (Some place) (used (length message.text) conn))))

abbrev pub conn_tables_after_text : ObservedFlow → ℕ → Message → SeenTables → SeenTables
conn_tables_after_text flow link message conn_tables = demuxed_after_text flow link message conn_tables (text_target flow link conn_tables)

-- ---- a sending host closes while a text of it is outstanding: that text may find no connection

abbrev pub admits_out : ObservedFlow → Result Message MessageFault → SeenTables → SeenTables
admits_out flow (Ok message) conn_tables = admits_error flow message conn_tables
admits_out flow (Fault fault) conn_tables = conn_tables

abbrev pub message_out_at : ObservedFlow → List SentMessage → Option ℕ → SeenTables → SeenTables
message_out_at flow kept None conn_tables = conn_tables
message_out_at flow kept (Some place) conn_tables = if is_slot_empty (kept_at kept place).slot then conn_tables else admits_out flow (message_in (kept_at kept place).message) conn_tables

abbrev pub text_left_out : ObservedFlow → List SentMessage → Option ConnState → SeenTables → SeenTables
text_left_out flow kept None conn_tables = conn_tables
text_left_out flow kept (Some conn) conn_tables = if flow.sent && is_senders conn.local then on conn.link else conn_tables
  where
    on : Option ℕ → SeenTables
    on None = conn_tables
    on (Some link) = message_out_at flow kept (position_of flow.at flow.peer link kept) conn_tables
