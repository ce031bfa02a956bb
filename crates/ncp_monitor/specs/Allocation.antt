-- Allocation and interrupts: the commands that name a link (NIC 8246, ALL, GVB, RET, INR and INS). Three
-- rules are this project's own (its profile): the limits, that each GVB is answered before the next, and
-- that a RET returns what is asked for. What a sender may still send is known exactly for the host
-- itself; for the peer it is an upper bound.
use Rattle.std.specs.Prelude.{ℕ, ◌+◌, ◌-◌, ◌*◌, ◌^◌, min, ◌==◌, not, ◌&&◌, ◌||◌, nat_lt, Bool, true, false, List, [], ◌∷◌, ◌++◌, Option, None, Some, is_some, if◌then◌else◌}
use Rattle.std.specs.Int.{div_ceil}
use Rattle.std.specs.Option.{option_to_list}
use Rattle.std.proofs.Math.Bool.{beq}
use Rattle.ncp_wire.specs.declared.command.Command.{Command}
use Rattle.ncp_wire.specs.declared.command.Command.TheVariants.{All, Gvb, Ret}
use Rattle.ncp_monitor.specs.declared.pending_reply.ExpectedReply.{ExpectedReply}
use Rattle.ncp_monitor.specs.declared.pending_reply.ExpectedReply.TheVariants as wanted
use Rattle.ncp_monitor.specs.declared.pending_reply.PendingReply.{PendingReply}
use Rattle.ncp_monitor.specs.declared.finding.Rule.{Rule}
use Rattle.ncp_monitor.specs.declared.finding.Rule.TheVariants as rule
use Rattle.ncp_monitor.specs.declared.finding.Unopened.TheVariants as why
use Rattle.ncp_interface.specs.declared.sent_message.SentMessage.{SentMessage}
use Rattle.ncp_monitor.specs.declared.link_target.ReceiveLink.{ReceiveLink}
use Rattle.ncp_monitor.specs.declared.link_target.LinkTarget.{LinkTarget}
use Rattle.ncp_monitor.specs.declared.link_target.LinkTarget.TheVariants as target
use Rattle.ncp_monitor.specs.declared.conn_state.ConnState.{ConnState}
use Rattle.ncp_monitor.specs.declared.conn_state.FactKind.TheVariants as fact_kind
use Rattle.ncp_monitor.specs.declared.observed_flow.ObservedFlow.{ObservedFlow}
use Rattle.ncp_monitor.specs.ConnStates.{SeenTables, has_sent_cls, conn_at_index, index_with_link, is_marked, put_conn, returns_dropped, link_suspended_now, suspended_pair}
use Rattle.ncp_interface.specs.Sockets.{is_senders}
use Rattle.ncp_monitor.specs.Replies.{is_own, owes, error_wanted, answers, is_wanted, reply_rule, after_reply}
use Rattle.ncp_monitor.specs.Requests.{is_link_busy}

-- ---- numbers

-- `fraction` 128ths of a number, rounded up and at most that number (that a GVB counts 128ths, and the
-- rounding, are this profile's)
abbrev pub part_returned : ℕ → ℕ → ℕ
part_returned number fraction = min number (div_ceil (number * fraction) 128)

-- a sum that saturates at the largest number of 32 bits
abbrev pub kept_sum : ℕ → ℕ → ℕ
kept_sum one other = min (one + other) (2 ^ 32 - 1)

-- ---- the target of a command that names a link

-- closed if the command's source has closed the connection, open if both sides have asked, else unasked
abbrev pub target_by : Bool → ConnState → ℕ → LinkTarget
target_by closed conn place =
    if closed then target.Closed
    else if is_some conn.link && is_some conn.size then target.Open place
    else target.Unasked place

abbrev pub target_at : ObservedFlow → List ConnState → Option ℕ → LinkTarget
target_at flow conns None = target.Nobody
target_at flow conns (Some place) = let conn = conn_at_index conns place in target_by (has_sent_cls conn flow.sent) conn place

abbrev pub is_receive_link_at_rest : ObservedFlow → ReceiveLink → SeenTables → Bool
is_receive_link_at_rest flow receive_link conn_tables = is_marked flow.at flow.peer (fact_kind.LinkSuspended receive_link.host receive_link.link) conn_tables

abbrev pub index_on_receive_link : ObservedFlow → ReceiveLink → List ConnState → Option ℕ
index_on_receive_link flow receive_link conns = index_with_link flow.at flow.peer receive_link.host receive_link.link conns

abbrev pub target_on : ObservedFlow → ReceiveLink → SeenTables → LinkTarget
target_on flow receive_link conn_tables =
    if is_receive_link_at_rest flow receive_link conn_tables then target.Rests else target_at flow conn_tables.conns (index_on_receive_link flow receive_link conn_tables.conns)

-- the receiver sends ALL, GVB and INR; the sender sends RET and INS

abbrev pub from_receiver : ObservedFlow → ℕ → ReceiveLink
from_receiver flow link = record { host = flow.sent; link = link }

abbrev pub from_sender : ObservedFlow → ℕ → ReceiveLink
from_sender flow link = record { host = not flow.sent; link = link }

-- the source is the receiver on the link
abbrev pub speaks_receiver : ObservedFlow → ReceiveLink → Bool
speaks_receiver flow receive_link = beq receive_link.host flow.sent

-- ---- rules for an open connection

-- the sender would be allowed more than 65,535 messages or 65,536 bits (this profile)
abbrev pub limit_rule : Command → ℕ → ℕ → Option Rule
limit_rule c messages bits = if nat_lt 65535 messages || nat_lt 65536 bits then Some (rule.OverLimit c messages bits) else None

abbrev pub open_rule : ObservedFlow → Command → ConnState → SeenTables → Option Rule
open_rule flow (All link messages bits) conn conn_tables = limit_rule (All link messages bits) (kept_sum conn.messages messages) (kept_sum conn.bits bits)
open_rule flow (Gvb link messages bits) conn conn_tables = if conn.recall then Some (rule.GvbAgain (Gvb link messages bits)) else None
open_rule flow (Ret link messages bits) conn conn_tables = reply_rule flow (Ret link messages bits) (rule.RetUnasked (Ret link messages bits)) conn_tables
open_rule flow c conn conn_tables = None

abbrev pub demuxed_rule : ObservedFlow → Command → SeenTables → LinkTarget → Option Rule
demuxed_rule flow c conn_tables target.Rests = None
demuxed_rule flow c conn_tables target.Nobody = Some (rule.NotOpen c why.NoPair)
demuxed_rule flow c conn_tables target.Closed = Some (rule.NotOpen c why.Closed)
demuxed_rule flow c conn_tables (target.Unasked place) = Some (rule.NotOpen c why.NotAsked)
demuxed_rule flow c conn_tables (target.Open place) = open_rule flow c (conn_at_index conn_tables.conns place) conn_tables

abbrev pub link_rule : ObservedFlow → Command → ReceiveLink → SeenTables → Option Rule
link_rule flow c receive_link conn_tables = demuxed_rule flow c conn_tables (target_on flow receive_link conn_tables)

-- ---- the numbers of a RET

-- those expected by the first pending reply that it fits
abbrev pub numbers_due : (PendingReply → Bool) → Command → List PendingReply → Option ExpectedReply
numbers_due own c [] = None
numbers_due own c (due ∷ pending_replies) = if answers own c due then Some due.wanted else numbers_due own c pending_replies

-- a RET of the host has exactly these numbers, one of the peer no greater ones
abbrev pub other_rule : ObservedFlow → Command → ℕ → ℕ → Option ExpectedReply → Option Rule
other_rule flow c messages bits (Some (wanted.Return link most most_bits)) =
    if (if flow.sent then not (messages == most && bits == most_bits) else nat_lt most messages || nat_lt most_bits bits)
    then Some (rule.RetOther c most most_bits)
    else None
other_rule flow c messages bits what = None

-- the peer returns more than its largest possible allocation
abbrev pub over_rule : ObservedFlow → Command → ℕ → ℕ → ConnState → Option Rule
over_rule flow c messages bits conn =
    if not flow.sent && (nat_lt conn.messages messages || nat_lt conn.bits bits) then Some (rule.RetOver c conn.messages conn.bits) else None

abbrev pub returned_rules : ObservedFlow → Command → ℕ → ℕ → ConnState → List PendingReply → List Rule
returned_rules flow c messages bits conn pending_replies =
    if is_wanted (is_own flow) c pending_replies
    then option_to_list (other_rule flow c messages bits (numbers_due (is_own flow) c pending_replies)) ++ option_to_list (over_rule flow c messages bits conn)
    else []

abbrev pub led_numbers : ObservedFlow → Command → ℕ → ℕ → SeenTables → LinkTarget → List Rule
led_numbers flow c messages bits conn_tables (target.Open place) = returned_rules flow c messages bits (conn_at_index conn_tables.conns place) conn_tables.pending_replies
led_numbers flow c messages bits conn_tables led = []

-- the rules of a RET's numbers, in addition to the rule of a command
abbrev pub number_rules : ObservedFlow → Command → SeenTables → List Rule
number_rules flow (Ret link messages bits) conn_tables =
    led_numbers flow (Ret link messages bits) messages bits conn_tables (target_on flow (from_sender flow link) conn_tables)
number_rules flow c conn_tables = []

-- ---- ERR

-- the second code that an ERR about the command may have: erroneous parameters, for ALL and RET
abbrev pub other_code : Command → ℕ
other_code (All link messages bits) = 3
other_code (Ret link messages bits) = 3
other_code c = 5

-- an ERR about the command is owed, or admitted

abbrev pub owes_error : ObservedFlow → Command → Bool → SeenTables → SeenTables
owes_error flow c mandatory conn_tables = owes flow (error_wanted 5 (other_code c) c) mandatory conn_tables

abbrev pub owes_error_if : Bool → ObservedFlow → Command → SeenTables → SeenTables
owes_error_if wrong flow c conn_tables = if wrong then owes_error flow c false conn_tables else conn_tables

-- ---- ALL

-- the host's allocation as a sender: unchanged if either number would exceed its maximum
abbrev pub granted_here : ℕ → ℕ → ConnState → ConnState
granted_here messages bits conn =
    if nat_lt 65535 (conn.messages + messages) || nat_lt (2 ^ 32 - 1) (conn.bits + bits) then conn
    else record conn { messages = conn.messages + messages; bits = conn.bits + bits }

abbrev pub granted_there : ℕ → ℕ → ConnState → ConnState
granted_there messages bits conn = record conn { messages = kept_sum conn.messages messages; bits = kept_sum conn.bits bits }

abbrev pub with_grant : ObservedFlow → ℕ → ℕ → ConnState → ConnState
with_grant flow messages bits conn = if flow.sent then granted_there messages bits conn else granted_here messages bits conn

abbrev pub after_allocation : ObservedFlow → Command → ℕ → ℕ → ℕ → SeenTables → SeenTables
after_allocation flow c messages bits place conn_tables =
    let conn = conn_at_index conn_tables.conns place in
    owes_error_if (is_some (limit_rule c (kept_sum conn.messages messages) (kept_sum conn.bits bits))) flow c
    (put_conn conn_tables (Some place) (with_grant flow messages bits conn))

-- ---- GVB

-- the RET that is asked for
abbrev pub asked_back : ℕ → ℕ → ℕ → ConnState → ExpectedReply
asked_back link messages bits conn = wanted.Return link (part_returned conn.messages messages) (part_returned conn.bits bits)

-- if the host is the sender, the amount is deducted at once
abbrev pub recalled : ObservedFlow → ℕ → ℕ → ConnState → ConnState
recalled flow messages bits conn =
    if flow.sent then record conn { recall = true }
    else record conn {
      recall = true;
      messages = conn.messages - part_returned conn.messages messages;
      bits = conn.bits - part_returned conn.bits bits;
    }

-- a RET is pending unless the sender has closed. The host's is mandatory only if no text of it is
-- outstanding on the link: otherwise its endpoint may already be closing
abbrev pub owes_return : ObservedFlow → List SentMessage → ℕ → ℕ → ℕ → ConnState → SeenTables → SeenTables
owes_return flow kept link messages bits conn conn_tables =
    if has_sent_cls conn (not flow.sent) then conn_tables
    else owes flow (asked_back link messages bits conn) (not flow.sent && not (is_link_busy flow.at flow.peer (Some link) kept)) conn_tables

abbrev pub after_gvb : ObservedFlow → List SentMessage → Command → ℕ → ℕ → ℕ → ℕ → SeenTables → SeenTables
after_gvb flow kept c link messages bits place conn_tables =
    let conn = conn_at_index conn_tables.conns place in
    owes_return flow kept link messages bits conn
    (put_conn (owes_error_if conn.recall flow c conn_tables) (Some place) (recalled flow messages bits conn))

-- ---- RET

-- the host's amount was deducted at the GVB; the peer's is deducted now
abbrev pub with_return : ObservedFlow → ℕ → ℕ → ConnState → ConnState
with_return flow messages bits conn =
    if flow.sent then record conn { recall = false }
    else record conn { recall = false; messages = conn.messages - messages; bits = conn.bits - bits }

-- if the peer returns more than it can have, an ALL of the host may be queued
abbrev pub suspended_if : Bool → ObservedFlow → ReceiveLink → SeenTables → SeenTables
suspended_if over flow receive_link conn_tables = if over then link_suspended_now flow.at flow.peer receive_link.host receive_link.link conn_tables else conn_tables

abbrev pub is_any : List Rule → Bool
is_any [] = false
is_any (wrong ∷ rules) = true

abbrev pub after_wanted_ret : ObservedFlow → Command → ReceiveLink → ℕ → ℕ → ℕ → SeenTables → SeenTables
after_wanted_ret flow c receive_link messages bits place conn_tables =
    let conn = conn_at_index conn_tables.conns place in
    owes_error_if (is_any (returned_rules flow c messages bits conn conn_tables.pending_replies)) flow c
    (suspended_if (is_some (over_rule flow c messages bits conn)) flow receive_link
    (put_conn (after_reply flow c conn_tables) (Some place) (with_return flow messages bits conn)))

abbrev pub suspended_conn : ObservedFlow → ℕ → SeenTables → SeenTables
suspended_conn flow place conn_tables = let conn = conn_at_index conn_tables.conns place in suspended_pair flow.at flow.peer conn.local conn.remote conn_tables

abbrev pub after_ret : ObservedFlow → Command → ReceiveLink → ℕ → ℕ → ℕ → SeenTables → SeenTables
after_ret flow c receive_link messages bits place conn_tables =
    if is_wanted (is_own flow) c conn_tables.pending_replies then after_wanted_ret flow c receive_link messages bits place conn_tables
    else owes_error flow c false (suspended_conn flow place conn_tables)

-- ---- the effect of a command that names a link

abbrev pub after_open : ObservedFlow → List SentMessage → Command → ReceiveLink → ℕ → SeenTables → SeenTables
after_open flow kept (All link messages bits) receive_link place conn_tables = after_allocation flow (All link messages bits) messages bits place conn_tables
after_open flow kept (Gvb link messages bits) receive_link place conn_tables = after_gvb flow kept (Gvb link messages bits) link messages bits place conn_tables
after_open flow kept (Ret link messages bits) receive_link place conn_tables = after_ret flow (Ret link messages bits) receive_link messages bits place conn_tables
after_open flow kept c receive_link place conn_tables = conn_tables

-- If the receiver is the source, all its requests were observed. A link without a connection then has
-- none at the destination either, which answers with an ERR; a connection for which the destination has
-- not asked may be one for which its request is queued. If the sender is the source, an RTS of the
-- receiver may be queued.
abbrev pub demuxed_after : ObservedFlow → List SentMessage → Command → ReceiveLink → SeenTables → LinkTarget → SeenTables
demuxed_after flow kept c receive_link conn_tables target.Rests = owes_error flow c false conn_tables
demuxed_after flow kept c receive_link conn_tables target.Nobody =
    if speaks_receiver flow receive_link then owes flow (error_wanted 5 5 c) true conn_tables
    else owes_error flow c false (link_suspended_now flow.at flow.peer receive_link.host receive_link.link conn_tables)
demuxed_after flow kept c receive_link conn_tables target.Closed =
    owes_error flow c false (suspended_if (not (speaks_receiver flow receive_link)) flow receive_link conn_tables)
demuxed_after flow kept c receive_link conn_tables (target.Unasked place) =
    owes_error flow c false (if speaks_receiver flow receive_link then suspended_conn flow place conn_tables else conn_tables)
demuxed_after flow kept c receive_link conn_tables (target.Open place) = after_open flow kept c receive_link place conn_tables

abbrev pub after_link : ObservedFlow → List SentMessage → Command → ReceiveLink → SeenTables → SeenTables
after_link flow kept c receive_link conn_tables = demuxed_after flow kept c receive_link conn_tables (target_on flow receive_link conn_tables)

-- ---- a sender that sends its CLS no longer owes a RET

abbrev pub speaks_sender : ObservedFlow → ConnState → Bool
speaks_sender flow conn = beq (is_senders conn.local) flow.sent

abbrev pub ends_returns : ObservedFlow → Option ConnState → SeenTables → SeenTables
ends_returns flow None conn_tables = conn_tables
ends_returns flow (Some conn) conn_tables = if speaks_sender flow conn then drop_on conn.link else conn_tables
  where
    drop_on : Option ℕ → SeenTables
    drop_on None = conn_tables
    drop_on (Some link) = returns_dropped flow.at flow.peer flow.sent link conn_tables
