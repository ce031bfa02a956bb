-- Findings that all pass a test, part by part: of what a message says, of the message by itself, and of a record.
use Rattle.std.proofs.Common.{◌≡◌, ℕ, ◌==◌, Bool, true, false, not, ◌&&◌, ◌||◌, if◌then◌else◌, List, [], ◌∷◌, ◌++◌, length, Option, None, Some, Result, Ok, Err, option_map, option_to_list, is_some, refl, sym, ap, ◌∙◌, subst}
use Rattle.std.specs.Prelude.{nat_le, nat_lt, map}
use Rattle.std.specs.List.{list_all, list_any}
use Rattle.std.proofs.lemmas.Bool.{and_parts}
use Rattle.ncp_leader.specs.declared.fault.MessageFault.{MessageFault}
use Rattle.ncp_leader.specs.Message.{Message, message_in}
use Rattle.ncp_leader.specs.declared.leader.Leader.{Leader}
use Rattle.ncp_leader.specs.declared.leader.Short.{Short}
use Rattle.ncp_leader.specs.Leader.{leader_in}
use Rattle.ncp_wire.specs.declared.command.Command.{Command}
use Rattle.ncp_wire.specs.declared.command.Command.TheVariants as commands
use Rattle.ncp_wire.specs.declared.fault.CommandFault.{CommandFault}
use Rattle.ncp_interface.specs.declared.sent_message.SentMessage.{SentMessage}
use Rattle.ncp_monitor.specs.declared.conn_state.ConnState.{ConnState}
use Rattle.ncp_interface.specs.declared.request.Request.{Request}
use Rattle.ncp_interface.specs.declared.request.Request.TheVariants.{Link, Size}
use Rattle.ncp_monitor.specs.declared.conn_state.FactKind.TheVariants as fact_kind
use Rattle.ncp_monitor.specs.declared.observed_flow.ObservedFlow.{ObservedFlow}
use Rattle.ncp_monitor.specs.declared.observed_flow.Acceptance.{Acceptance}
use Rattle.ncp_monitor.specs.declared.observed_flow.Acceptance.TheVariants.{Right, Refused, Unclear}
use Rattle.ncp_monitor.specs.declared.finding.Finding.{Finding}
use Rattle.ncp_monitor.specs.declared.finding.Rule.{Rule}
use Rattle.ncp_monitor.specs.declared.finding.Rule.TheVariants as rule
use Rattle.ncp_monitor.specs.declared.finding.ItemKind.{ItemKind}
use Rattle.ncp_monitor.specs.declared.finding.ItemKind.TheVariants as thing
use Rattle.ncp_monitor.specs.declared.finding.Unsent.{Unsent}
use Rattle.ncp_interface.specs.declared.event.InterfaceEvent.{InterfaceEvent}
use Rattle.ncp_interface.specs.declared.event.InterfaceEvent.TheVariants as event
use Rattle.ncp_interface.specs.declared.imp_direction.ImpDirection.TheVariants.{ToImp, FromImp}
use Rattle.ncp_monitor.specs.declared.act.Act.{Act}
use Rattle.ncp_monitor.specs.declared.act.Act.TheVariants.{Reset, Reply, Other}
use Rattle.ncp_interface.specs.declared.message_class.MessageClass.{MessageClass}
use Rattle.ncp_interface.specs.declared.message_class.MessageClass.TheVariants.{Stop, Text, Control}
use Rattle.ncp_monitor.specs.declared.phase.MessageContext.{MessageContext}
use Rattle.ncp_monitor.specs.declared.monitor.Monitor.{Monitor}
use Rattle.ncp_monitor.specs.declared.view.View.{View}
use Rattle.ncp_monitor.specs.Acts.{act_of}
use Rattle.ncp_monitor.specs.Views.{awaits_reply}
use Rattle.ncp_monitor.specs.Phases.{broken_by, sender, is_early, early_rule, early_finding, hears_reset, again_finding, unquiet_finding, first_finding, reset_findings, unasked_finding, reply_findings, bad_finding, act_findings, item_findings, after_item, after_items, missing_finding}
use Rattle.ncp_monitor.specs.ConnStates.{SeenTables, has_sent_cls, has_sent_request, conn_at_index, conn_of, user_of, is_marked}
use Rattle.ncp_interface.specs.Sockets.{is_senders, is_of_sexes}
use Rattle.ncp_monitor.specs.Replies.{is_own, is_wanted, skipped}
use Rattle.ncp_monitor.specs.Requests.{broken, range_rule, link_suspended, used_acceptance, link_acceptance, conn_acceptance, ranged_acceptance, request_acceptance, left_acceptance, cls_acceptance, link_out_rule, text_out_rule, cls_rule}
use Rattle.ncp_interface.specs.Slots.{is_busy_on}
use Rattle.ncp_monitor.specs.Speaking.{here_of, there_of, closing_acceptance, is_asking, reply_rule, command_rule, spoken_rule, spoken_numbers, reply_left_out, cls_left_out}
use Rattle.ncp_monitor.specs.Talked.{observed_flow_of, reaches, act_reaches, flow_finding, number_findings, text_findings, after_flow, all_findings, talked_findings, after_talked, missing, reports_omitted, missing_reply, missing_cls, left_out_findings}
use Rattle.ncp_monitor.specs.declared.pending_reply.PendingReply.{PendingReply}
use Rattle.ncp_monitor.specs.declared.pending_reply.ExpectedReply.{ExpectedReply}
use Rattle.ncp_monitor.specs.declared.pending_reply.ExpectedReply.TheVariants as wanted
use Rattle.ncp_monitor.specs.declared.link_target.ReceiveLink.{ReceiveLink}
use Rattle.ncp_monitor.specs.declared.link_target.LinkTarget.{LinkTarget}
use Rattle.ncp_monitor.specs.declared.link_target.LinkTarget.TheVariants as target
use Rattle.ncp_monitor.specs.Allocation.{kept_sum, target_on, from_receiver, from_sender, open_rule, demuxed_rule, link_rule, numbers_due, other_rule, over_rule, returned_rules, led_numbers, number_rules}
use Rattle.ncp_monitor.specs.Texts.{is_error_admitted, text_target, size_rule, uses_too_much, over_text_rule, demuxed_text_rules, text_rules}
use Rattle.ncp_monitor.specs.Messages.{judged_bits, rule_of_message}
use Rattle.ncp_interface.specs.Contents.{message_class, items_said}
use Rattle.ncp_interface.specs.Events.{is_answer, event_after}
use Rattle.ncp_interface.proofs.Events.{to_host, goes_to}
use Rattle.ncp_monitor.specs.Judged.{by_host, by_imp, view_of, shows_all, control_findings, read_findings, said_findings, message_findings, sees, sees_both, is_crowded, judges_coming, slot_of_link, out_finding, fresh_out, monitor_after_out, false_rule, false_finding, stray_rule, stray_finding, answer_findings, unsent_at, unsent_finding, after_in, turn_at, event_findings, record_findings}

abbrev pub Pass : (Finding → Bool) → List Finding → Type 0
Pass P found = list_all P found ≡ true

pub both : (P : Finding → Bool) (xs ys : List Finding) → Pass P xs → Pass P ys → Pass P (xs ++ ys)
both P [] ys a b = b
both P (x ∷ xs) ys a b =
    let parts = and_parts (P x) (list_all P xs) a in
    ap (λ (c : Bool). c && list_all P (xs ++ ys)) parts.0 ∙ both P xs ys parts.1 b

pub one : (P : Finding → Bool) (f : Finding) → P f ≡ true → Pass P (f ∷ [])
one P f e = ap (λ (c : Bool). c && true) e

-- ---- by a test

pub unless : (P : Finding → Bool) (b : Bool) (f : Finding) → P f ≡ true → Pass P (option_to_list (if b then None else Some f))
unless P true f e = refl
unless P false f e = one P f e

pub where_so : (P : Finding → Bool) (b : Bool) (f : Finding) → P f ≡ true → Pass P (option_to_list (if b then Some f else None))
where_so P true f e = one P f e
where_so P false f e = refl

pub all_where : (P : Finding → Bool) (b : Bool) (xs : List Finding) → Pass P xs → Pass P (if b then xs else [])
all_where P true xs e = e
all_where P false xs e = refl

pub all_unless : (P : Finding → Bool) (b : Bool) (xs : List Finding) → Pass P xs → Pass P (if b then [] else xs)
all_unless P true xs e = refl
all_unless P false xs e = e

pub mapped : {A : Type 0} (P : Finding → Bool) (g : A → Finding) (o : Option A) → ((x : A) → o ≡ Some x → P (g x) ≡ true) → Pass P (option_to_list (option_map g o))
mapped P g None h = refl
mapped P g (Some x) h = one P (g x) (h x refl)

pub mapped_unless : {A : Type 0} (P : Finding → Bool) (b : Bool) (g : A → Finding) (o : Option A) → ((x : A) → o ≡ Some x → P (g x) ≡ true) → Pass P (option_to_list (if b then None else option_map g o))
mapped_unless P true g o h = refl
mapped_unless P false g o h = mapped P g o h

pub mapped_where : {A : Type 0} (P : Finding → Bool) (b : Bool) (g : A → Finding) (o : Option A) → ((x : A) → o ≡ Some x → P (g x) ≡ true) → Pass P (option_to_list (if b then option_map g o else None))
mapped_where P true g o h = mapped P g o h
mapped_where P false g o h = refl

-- ---- what a message says

-- the rules of resets, and of control texts by themselves
abbrev pub is_of_reset : Rule → Bool
is_of_reset (rule.Bad fault) = true
is_of_reset (rule.Early what began waits owes) = true
is_of_reset rule.RstAgain = true
is_of_reset rule.RrpUnasked = true
is_of_reset (rule.Unquiet reply link) = true
is_of_reset rule.RrpFirst = true
is_of_reset rule.MissingRrp = true
is_of_reset other = false

-- the rules of what is said while two hosts are up
abbrev pub is_of_flow : Rule → Bool
is_of_flow (rule.Missing c) = true
is_of_flow (rule.Skipped c) = true
is_of_flow (rule.EcoAgain byte) = true
is_of_flow (rule.ErpUnasked byte) = true
is_of_flow (rule.ErrUnjust code bytes) = true
is_of_flow (rule.Sex c) = true
is_of_flow (rule.LinkRange c) = true
is_of_flow (rule.SizeZero c) = true
is_of_flow (rule.AskedAgain c since) = true
is_of_flow (rule.Unended c since) = true
is_of_flow (rule.LinkUsed c local remote) = true
is_of_flow (rule.ClsUnknown c) = true
is_of_flow (rule.ClsAgain c since) = true
is_of_flow (rule.TextOut c link) = true
is_of_flow (rule.NotOpen c why) = true
is_of_flow (rule.OverLimit c messages bits) = true
is_of_flow (rule.GvbAgain c) = true
is_of_flow (rule.RetUnasked c) = true
is_of_flow (rule.RetOther c messages bits) = true
is_of_flow (rule.RetOver c messages bits) = true
is_of_flow (rule.TextNotOpen link why) = true
is_of_flow (rule.TextSize link size asked) = true
is_of_flow (rule.TextOver link messages bits of_bits) = true
is_of_flow other = false

abbrev pub is_said : Rule → Bool
is_said r = is_of_reset r || is_of_flow r

abbrev pub Says : (Finding → Bool) → MessageContext → Type 0
Says P context = (r : Rule) → is_said r ≡ true → P (broken_by context r) ≡ true

early : (P : Finding → Bool) (context : MessageContext) → Says P context → (what : ItemKind) (view : View) → Pass P (option_to_list (early_finding context what view))
early P context s what view = unless P (not view.told || not (is_early context what view)) (broken_by context (early_rule context what view)) (s (early_rule context what view) refl)

unquiet : (P : Finding → Bool) (context : MessageContext) → Says P context → (reply : Bool) (view : View) → Pass P (option_to_list (unquiet_finding reply context view))
unquiet P context s reply view = mapped_unless P (not context.sent || view.suspended) (λ (link : ℕ). broken_by context (rule.Unquiet reply link)) context.busy (λ link e. s (rule.Unquiet reply link) refl)

resets : (P : Finding → Bool) (context : MessageContext) → Says P context → (view : View) → Pass P (reset_findings context view)
resets P context s view =
    let again = unless P (not (awaits_reply (sender context view).wait)) (broken_by context rule.RstAgain) (s rule.RstAgain refl) in
    let first = where_so P (context.sent && view.owes && view.first && not view.suspended) (broken_by context rule.RrpFirst) (s rule.RrpFirst refl) in
    all_where P (hears_reset context view) (option_to_list (again_finding context view) ++ option_to_list (unquiet_finding false context view) ++ option_to_list (first_finding context view))
    (both P (option_to_list (again_finding context view) ++ option_to_list (unquiet_finding false context view)) (option_to_list (first_finding context view))
    (both P (option_to_list (again_finding context view)) (option_to_list (unquiet_finding false context view)) again (unquiet P context s false view)) first)

replies : (P : Finding → Bool) (context : MessageContext) → Says P context → (view : View) → Pass P (reply_findings context view)
replies P context s view =
    let unasked = unless P (not ((sender context view).asked == 0) || (sender context view).admits) (broken_by context rule.RrpUnasked) (s rule.RrpUnasked refl) in
    all_where P view.told (option_to_list (unasked_finding context view) ++ option_to_list (unquiet_finding true context view))
    (both P (option_to_list (unasked_finding context view)) (option_to_list (unquiet_finding true context view)) unasked (unquiet P context s true view))

act : (P : Finding → Bool) (context : MessageContext) → Says P context → (a : Act) (view : View) → Pass P (act_findings context a view)
act P context s Reset view = resets P context s view
act P context s Reply view = replies P context s view
act P context s (Other what) view = early P context s what view

bad : (P : Finding → Bool) (context : MessageContext) → Says P context → (item : Result Command CommandFault) → Pass P (option_to_list (bad_finding context item))
bad P context s (Ok command) = refl
bad P context s (Err fault) = one P (broken_by context (rule.Bad fault)) (s (rule.Bad fault) refl)

-- ---- what is said while two hosts are up

-- it is a rule of what is said, if one is broken

abbrev told : Option Rule → Bool
told None = true
told (Some r) = is_of_flow r

abbrev pub SaysFlow : (Finding → Bool) → MessageContext → Type 0
SaysFlow P context = (r : Rule) → is_of_flow r ≡ true → P (broken_by context r) ≡ true

of_all : (P : Finding → Bool) (context : MessageContext) → Says P context → SaysFlow P context
of_all P context s r k = s r (go (is_of_reset r) (is_of_flow r) k)
  where
    go : (a b : Bool) → b ≡ true → (a || b) ≡ true
    go true b k = refl
    go false b k = k

reported_pass : (P : Finding → Bool) (context : MessageContext) → SaysFlow P context → (b : Bool) (o : Option Rule) → told o ≡ true → Pass P (option_to_list (if b then option_map (broken_by context) o else None))
reported_pass P context s false o k = refl
reported_pass P context s true None k = refl
reported_pass P context s true (Some r) k = one P (broken_by context r) (s r k)

-- case by case

where_reported : (b : Bool) (r : Rule) → is_of_flow r ≡ true → told (if b then Some r else None) ≡ true
where_reported true r k = k
where_reported false r k = refl

used_reported : (flow : ObservedFlow) (c : Command) (user : Option ConnState) → told (broken (used_acceptance flow c user)) ≡ true
used_reported flow c None = refl
used_reported flow c (Some user) = go (has_sent_cls user flow.sent)
  where
    used : Rule
    used = rule.LinkUsed c user.local user.remote

    go : (b : Bool) → told (broken (if b then Unclear (Some used) else Refused used)) ≡ true
    go true = refl
    go false = refl

link_told : (flow : ObservedFlow) (c : Command) (request : Request) (conn_tables : SeenTables) → told (broken (link_acceptance flow c request conn_tables)) ≡ true
link_told flow c (Link link) conn_tables = used_reported flow c (user_of flow.at flow.peer flow.sent link conn_tables.conns)
link_told flow c (Size size) conn_tables = refl

conn_reported : (flow : ObservedFlow) (c : Command) (request : Request) (conn_tables : SeenTables) (conn : Option ConnState) → told (broken (conn_acceptance flow c request conn_tables conn)) ≡ true
conn_reported flow c request conn_tables None = link_told flow c request conn_tables
conn_reported flow c request conn_tables (Some conn) = go conn.suspended (has_sent_cls conn flow.sent) (has_sent_request conn request)
  where
    go : (suspended left asked : Bool)
        → told (broken (if suspended then Unclear None else if left then Unclear (Some (rule.Unended c conn.since)) else if asked then Refused (rule.AskedAgain c conn.since) else link_acceptance flow c request conn_tables)) ≡ true
    go true left asked = refl
    go false true asked = refl
    go false false true = refl
    go false false false = link_told flow c request conn_tables

range_reported : (c : Command) (request : Request) → told (range_rule c request) ≡ true
range_reported c (Link link) = go (nat_le 2 link && nat_le link 71)
  where
    go : (b : Bool) → told (if b then None else Some (rule.LinkRange c)) ≡ true
    go true = refl
    go false = refl
range_reported c (Size size) = where_reported (size == 0) (rule.SizeZero c) refl

ranged_reported : (flow : ObservedFlow) (c : Command) (local remote : ℕ) (request : Request) (conn_tables : SeenTables) (range : Option Rule) → told range ≡ true → told (broken (ranged_acceptance flow c local remote request conn_tables range)) ≡ true
ranged_reported flow c local remote request conn_tables (Some wrong) k = k
ranged_reported flow c local remote request conn_tables None k = go (link_suspended flow request conn_tables)
  where
    go : (b : Bool) → told (broken (if b then Unclear None else conn_acceptance flow c request conn_tables (conn_of flow.at flow.peer local remote conn_tables.conns))) ≡ true
    go true = refl
    go false = conn_reported flow c request conn_tables (conn_of flow.at flow.peer local remote conn_tables.conns)

request_reported : (flow : ObservedFlow) (c : Command) (local remote : ℕ) (right : Bool) (request : Request) (conn_tables : SeenTables) → told (broken (request_acceptance flow c local remote right request conn_tables)) ≡ true
request_reported flow c local remote false request conn_tables = refl
request_reported flow c local remote true request conn_tables = ranged_reported flow c local remote request conn_tables (range_rule c request) (range_reported c request)

left_reported : (flow : ObservedFlow) (c : Command) (conn : Option ConnState) → told (broken (left_acceptance flow c conn)) ≡ true
left_reported flow c None = refl
left_reported flow c (Some conn) = go conn.suspended (has_sent_cls conn flow.sent)
  where
    go : (suspended left : Bool) → told (broken (if suspended then Unclear None else if left then Unclear (Some (rule.ClsAgain c conn.since)) else Right)) ≡ true
    go true left = refl
    go false true = refl
    go false false = refl

cls_reported : (flow : ObservedFlow) (c : Command) (local remote : ℕ) (conn_tables : SeenTables) → told (broken (cls_acceptance flow c local remote conn_tables)) ≡ true
cls_reported flow c local remote conn_tables = go (is_of_sexes local remote || is_of_sexes remote local)
  where
    go : (b : Bool) → told (broken (if b then left_acceptance flow c (conn_of flow.at flow.peer local remote conn_tables.conns) else Refused (rule.Sex c))) ≡ true
    go true = left_reported flow c (conn_of flow.at flow.peer local remote conn_tables.conns)
    go false = refl

out_reported : (flow : ObservedFlow) (c : Command) (kept : List SentMessage) (conn_tables : SeenTables) (conn : Option ConnState) → told (text_out_rule flow c kept conn_tables conn) ≡ true
out_reported flow c kept conn_tables None = refl
out_reported flow c kept conn_tables (Some conn) = go (flow.sent && is_senders conn.local) conn.link
  where
    go : (b : Bool) (link : Option ℕ) → told (if b then link_out_rule flow c kept conn_tables link else None) ≡ true
    go false link = refl
    go true None = refl
    go true (Some link) = where_reported (list_any (is_busy_on flow.at flow.peer link) kept && not (is_marked flow.at flow.peer (fact_kind.LinkSuspended false link) conn_tables)) (rule.TextOut c link) refl

closing_reported : (flow : ObservedFlow) (c : Command) (local remote : ℕ) (kept : List SentMessage) (conn_tables : SeenTables) (acceptance : Acceptance) → told (broken acceptance) ≡ true → told (cls_rule flow c local remote kept conn_tables acceptance) ≡ true
closing_reported flow c local remote kept conn_tables Right k = out_reported flow c kept conn_tables (conn_of flow.at flow.peer local remote conn_tables.conns)
closing_reported flow c local remote kept conn_tables (Refused wrong) k = k
closing_reported flow c local remote kept conn_tables (Unclear wrong) k = k

reply_reported : (flow : ObservedFlow) (c : Command) (unasked : Rule) (conn_tables : SeenTables) → is_of_flow unasked ≡ true → told (reply_rule flow c unasked conn_tables) ≡ true
reply_reported flow c unasked conn_tables k = go (is_wanted (is_own flow) c conn_tables.pending_replies) (skipped (is_own flow) c conn_tables.pending_replies)
  where
    go : (b : Bool) (o : Option Command) → told (if b then option_map (λ d. rule.Skipped d) o else Some unasked) ≡ true
    go true None = refl
    go true (Some d) = refl
    go false o = k

error_told : (flow : ObservedFlow) (code : ℕ) (bytes : List ℕ) (conn_tables : SeenTables) (b : Bool) → told (if b then None else reply_rule flow (commands.Err code bytes) (rule.ErrUnjust code bytes) conn_tables) ≡ true
error_told flow code bytes conn_tables true = refl
error_told flow code bytes conn_tables false = reply_reported flow (commands.Err code bytes) (rule.ErrUnjust code bytes) conn_tables refl

open_reported : (flow : ObservedFlow) (c : Command) (conn : ConnState) (conn_tables : SeenTables) → told (open_rule flow c conn conn_tables) ≡ true
open_reported flow (commands.All link messages bits) conn conn_tables =
    where_reported (nat_lt 65535 (kept_sum conn.messages messages) || nat_lt 65536 (kept_sum conn.bits bits))
    (rule.OverLimit (commands.All link messages bits) (kept_sum conn.messages messages) (kept_sum conn.bits bits)) refl
open_reported flow (commands.Gvb link fm fb) conn conn_tables = where_reported conn.recall (rule.GvbAgain (commands.Gvb link fm fb)) refl
open_reported flow (commands.Ret link messages bits) conn conn_tables = reply_reported flow (commands.Ret link messages bits) (rule.RetUnasked (commands.Ret link messages bits)) conn_tables refl
open_reported flow (commands.Rts receive send link) conn conn_tables = refl
open_reported flow (commands.Str send receive size) conn conn_tables = refl
open_reported flow (commands.Cls my your) conn conn_tables = refl
open_reported flow (commands.Eco byte) conn conn_tables = refl
open_reported flow (commands.Erp byte) conn conn_tables = refl
open_reported flow (commands.Err code bytes) conn conn_tables = refl
open_reported flow (commands.Inr link) conn conn_tables = refl
open_reported flow (commands.Ins link) conn conn_tables = refl
open_reported flow commands.Nop conn conn_tables = refl
open_reported flow commands.Rst conn conn_tables = refl
open_reported flow commands.Rrp conn conn_tables = refl

led_reported : (flow : ObservedFlow) (c : Command) (conn_tables : SeenTables) (led : LinkTarget) → told (demuxed_rule flow c conn_tables led) ≡ true
led_reported flow c conn_tables target.Rests = refl
led_reported flow c conn_tables target.Nobody = refl
led_reported flow c conn_tables target.Closed = refl
led_reported flow c conn_tables (target.Unasked place) = refl
led_reported flow c conn_tables (target.Open place) = open_reported flow c (conn_at_index conn_tables.conns place) conn_tables

link_rule_reported : (flow : ObservedFlow) (c : Command) (receive_link : ReceiveLink) (conn_tables : SeenTables) → told (link_rule flow c receive_link conn_tables) ≡ true
link_rule_reported flow c receive_link conn_tables = led_reported flow c conn_tables (target_on flow receive_link conn_tables)

command_reported : (flow : ObservedFlow) (kept : List SentMessage) (c : Command) (conn_tables : SeenTables) → told (command_rule flow kept c conn_tables) ≡ true
command_reported flow kept (commands.Rts receive send link) conn_tables =
    request_reported flow (commands.Rts receive send link) (here_of flow receive send) (there_of flow receive send) (is_of_sexes receive send) (Link link) conn_tables
command_reported flow kept (commands.Str send receive size) conn_tables =
    request_reported flow (commands.Str send receive size) (here_of flow send receive) (there_of flow send receive) (is_of_sexes receive send) (Size size) conn_tables
command_reported flow kept (commands.Cls my your) conn_tables =
    closing_reported flow (commands.Cls my your) (here_of flow my your) (there_of flow my your) kept conn_tables (closing_acceptance flow (commands.Cls my your) my your conn_tables)
    (cls_reported flow (commands.Cls my your) (here_of flow my your) (there_of flow my your) conn_tables)
command_reported flow kept (commands.Eco byte) conn_tables = where_reported (is_asking flow conn_tables) (rule.EcoAgain byte) refl
command_reported flow kept (commands.Erp byte) conn_tables = reply_reported flow (commands.Erp byte) (rule.ErpUnasked byte) conn_tables refl
command_reported flow kept (commands.Err code bytes) conn_tables = error_told flow code bytes conn_tables (is_error_admitted flow code bytes conn_tables)
command_reported flow kept commands.Nop conn_tables = refl
command_reported flow kept (commands.All link messages bits) conn_tables = link_rule_reported flow (commands.All link messages bits) (from_receiver flow link) conn_tables
command_reported flow kept (commands.Gvb link fm fb) conn_tables = link_rule_reported flow (commands.Gvb link fm fb) (from_receiver flow link) conn_tables
command_reported flow kept (commands.Ret link messages bits) conn_tables = link_rule_reported flow (commands.Ret link messages bits) (from_sender flow link) conn_tables
command_reported flow kept (commands.Inr link) conn_tables = link_rule_reported flow (commands.Inr link) (from_receiver flow link) conn_tables
command_reported flow kept (commands.Ins link) conn_tables = link_rule_reported flow (commands.Ins link) (from_sender flow link) conn_tables
command_reported flow kept commands.Rst conn_tables = refl
command_reported flow kept commands.Rrp conn_tables = refl

spoken_reported : (flow : ObservedFlow) (kept : List SentMessage) (item : Result Command CommandFault) (conn_tables : SeenTables) → told (spoken_rule flow kept item conn_tables) ≡ true
spoken_reported flow kept (Err fault) conn_tables = refl
spoken_reported flow kept (Ok c) conn_tables = go conn_tables.full
  where
    go : (b : Bool) → told (if b then None else command_rule flow kept c conn_tables) ≡ true
    go true = refl
    go false = command_reported flow kept c conn_tables

-- several at once

all_reported : (P : Finding → Bool) (context : MessageContext) → SaysFlow P context → (rules : List Rule) → list_all is_of_flow rules ≡ true → Pass P (map (broken_by context) rules)
all_reported P context s [] k = refl
all_reported P context s (r ∷ rules) k =
    let parts = and_parts (is_of_flow r) (list_all is_of_flow rules) k in
    ap (λ (c : Bool). c && list_all P (map (broken_by context) rules)) (s r parts.0) ∙ all_reported P context s rules parts.1

two_reported : (one other : Option Rule) → told one ≡ true → told other ≡ true → list_all is_of_flow (option_to_list one ++ option_to_list other) ≡ true
two_reported None None k l = refl
two_reported None (Some r) k l = ap (λ (c : Bool). c && true) l
two_reported (Some q) None k l = ap (λ (c : Bool). c && true) k
two_reported (Some q) (Some r) k l = ap (λ (c : Bool). c && (is_of_flow r && true)) k ∙ ap (λ (c : Bool). c && true) l

other_reported : (flow : ObservedFlow) (c : Command) (messages bits : ℕ) (what : Option ExpectedReply) → told (other_rule flow c messages bits what) ≡ true
other_reported flow c messages bits (Some (wanted.Return link most most_bits)) =
    where_reported (if flow.sent then not (messages == most && bits == most_bits) else nat_lt most messages || nat_lt most_bits bits) (rule.RetOther c most most_bits) refl
other_reported flow c messages bits (Some (wanted.Echo byte)) = refl
other_reported flow c messages bits (Some (wanted.Error code or bytes)) = refl
other_reported flow c messages bits None = refl

returned_reported : (flow : ObservedFlow) (c : Command) (messages bits : ℕ) (conn : ConnState) (pending_replies : List PendingReply) → list_all is_of_flow (returned_rules flow c messages bits conn pending_replies) ≡ true
returned_reported flow c messages bits conn pending_replies = go (is_wanted (is_own flow) c pending_replies)
  where
    both_reported : list_all is_of_flow (option_to_list (other_rule flow c messages bits (numbers_due (is_own flow) c pending_replies)) ++ option_to_list (over_rule flow c messages bits conn)) ≡ true
    both_reported = two_reported (other_rule flow c messages bits (numbers_due (is_own flow) c pending_replies)) (over_rule flow c messages bits conn)
        (other_reported flow c messages bits (numbers_due (is_own flow) c pending_replies))
        (where_reported (not flow.sent && (nat_lt conn.messages messages || nat_lt conn.bits bits)) (rule.RetOver c conn.messages conn.bits) refl)

    go : (b : Bool) → list_all is_of_flow (if b then option_to_list (other_rule flow c messages bits (numbers_due (is_own flow) c pending_replies)) ++ option_to_list (over_rule flow c messages bits conn) else []) ≡ true
    go true = both_reported
    go false = refl

led_numbers_reported : (flow : ObservedFlow) (c : Command) (messages bits : ℕ) (conn_tables : SeenTables) (led : LinkTarget) → list_all is_of_flow (led_numbers flow c messages bits conn_tables led) ≡ true
led_numbers_reported flow c messages bits conn_tables target.Rests = refl
led_numbers_reported flow c messages bits conn_tables target.Nobody = refl
led_numbers_reported flow c messages bits conn_tables target.Closed = refl
led_numbers_reported flow c messages bits conn_tables (target.Unasked place) = refl
led_numbers_reported flow c messages bits conn_tables (target.Open place) = returned_reported flow c messages bits (conn_at_index conn_tables.conns place) conn_tables.pending_replies

numbers_reported : (flow : ObservedFlow) (c : Command) (conn_tables : SeenTables) → list_all is_of_flow (number_rules flow c conn_tables) ≡ true
numbers_reported flow (commands.Ret link messages bits) conn_tables = led_numbers_reported flow (commands.Ret link messages bits) messages bits conn_tables (target_on flow (from_sender flow link) conn_tables)
numbers_reported flow (commands.All link messages bits) conn_tables = refl
numbers_reported flow (commands.Gvb link fm fb) conn_tables = refl
numbers_reported flow (commands.Rts receive send link) conn_tables = refl
numbers_reported flow (commands.Str send receive size) conn_tables = refl
numbers_reported flow (commands.Cls my your) conn_tables = refl
numbers_reported flow (commands.Eco byte) conn_tables = refl
numbers_reported flow (commands.Erp byte) conn_tables = refl
numbers_reported flow (commands.Err code bytes) conn_tables = refl
numbers_reported flow (commands.Inr link) conn_tables = refl
numbers_reported flow (commands.Ins link) conn_tables = refl
numbers_reported flow commands.Nop conn_tables = refl
numbers_reported flow commands.Rst conn_tables = refl
numbers_reported flow commands.Rrp conn_tables = refl

unless_reported : (b : Bool) (rules : List Rule) → list_all is_of_flow rules ≡ true → list_all is_of_flow (if b then [] else rules) ≡ true
unless_reported true rules k = refl
unless_reported false rules k = k

spoken_numbers_reported : (flow : ObservedFlow) (item : Result Command CommandFault) (conn_tables : SeenTables) → list_all is_of_flow (spoken_numbers flow item conn_tables) ≡ true
spoken_numbers_reported flow (Err fault) conn_tables = refl
spoken_numbers_reported flow (Ok c) conn_tables = unless_reported conn_tables.full (number_rules flow c conn_tables) (numbers_reported flow c conn_tables)

pub numbers_pass : (P : Finding → Bool) (context : MessageContext) → SaysFlow P context → (flow : ObservedFlow) (item : Result Command CommandFault) (view : View) (conn_tables : SeenTables) → Pass P (number_findings context flow item view conn_tables)
numbers_pass P context s flow item view conn_tables =
    all_where P (act_reaches context (act_of item) view) (map (broken_by context) (spoken_numbers flow item conn_tables)) (all_reported P context s (spoken_numbers flow item conn_tables) (spoken_numbers_reported flow item conn_tables))

-- those of a text

size_reported : (link size : ℕ) (asked : Option ℕ) → told (size_rule link size asked) ≡ true
size_reported link size None = refl
size_reported link size (Some asked) = go (size == asked)
  where
    go : (b : Bool) → told (if b then None else Some (rule.TextSize link size asked)) ≡ true
    go true = refl
    go false = refl

led_text_reported : (link : ℕ) (message : Message) (conn_tables : SeenTables) (led : LinkTarget) → list_all is_of_flow (demuxed_text_rules link message conn_tables led) ≡ true
led_text_reported link message conn_tables target.Rests = refl
led_text_reported link message conn_tables target.Nobody = refl
led_text_reported link message conn_tables target.Closed = refl
led_text_reported link message conn_tables (target.Unasked place) = refl
led_text_reported link message conn_tables (target.Open place) =
    let conn = conn_at_index conn_tables.conns place in
    two_reported (size_rule link message.size conn.size) (over_text_rule link (length message.text) conn) (size_reported link message.size conn.size)
    (where_reported (uses_too_much (length message.text) conn) (rule.TextOver link conn.messages (length message.text) conn.bits) refl)

pub text_pass : (P : Finding → Bool) (context : MessageContext) → SaysFlow P context → (flow : ObservedFlow) (link : ℕ) (message : Message) (view : View) (conn_tables : SeenTables) → Pass P (text_findings context flow link message view conn_tables)
text_pass P context s flow link message view conn_tables =
    all_where P (reaches context thing.Text view) (map (broken_by context) (text_rules flow link message conn_tables))
    (all_reported P context s (text_rules flow link message conn_tables)
    (unless_reported conn_tables.full (demuxed_text_rules link message conn_tables (text_target flow link conn_tables)) (led_text_reported link message conn_tables (text_target flow link conn_tables))))

pub flow_pass : (P : Finding → Bool) (context : MessageContext) → SaysFlow P context → (flow : ObservedFlow) (kept : List SentMessage) (item : Result Command CommandFault) (view : View) (conn_tables : SeenTables) → Pass P (option_to_list (flow_finding context flow kept item view conn_tables))
flow_pass P context s flow kept item view conn_tables = reported_pass P context s (act_reaches context (act_of item) view) (spoken_rule flow kept item conn_tables) (spoken_reported flow kept item conn_tables)

pub items : (P : Finding → Bool) (context : MessageContext) → Says P context → (flow : ObservedFlow) (kept : List SentMessage) (said : List (Result Command CommandFault)) (view : View) (conn_tables : SeenTables) → Pass P (talked_findings context flow kept said view conn_tables)
items P context s flow kept [] view conn_tables = refl
items P context s flow kept (item ∷ said) view conn_tables =
    let next = after_item context item view in
    let now = after_flow context flow kept item view conn_tables in
    both P (all_findings context flow kept item view conn_tables) (talked_findings context flow kept said next now)
    (both P (item_findings context item view ++ option_to_list (flow_finding context flow kept item view conn_tables)) (number_findings context flow item view conn_tables)
    (both P (item_findings context item view) (option_to_list (flow_finding context flow kept item view conn_tables))
    (both P (option_to_list (bad_finding context item)) (act_findings context (act_of item) view) (bad P context s item) (act P context s (act_of item) view))
    (flow_pass P context (of_all P context s) flow kept item view conn_tables))
    (numbers_pass P context (of_all P context s) flow item view conn_tables))
    (items P context s flow kept said next now)

left_out : (P : Finding → Bool) (context : MessageContext) → SaysFlow P context → (o : Option Command) → (b : Bool) → Pass P (option_to_list (if b then missing context o else None))
left_out P context s o false = refl
left_out P context s None true = refl
left_out P context s (Some c) true = one P (broken_by context (rule.Missing c)) (s (rule.Missing c) refl)

pub left_out_pass : (P : Finding → Bool) (context : MessageContext) → SaysFlow P context → (flow : ObservedFlow) (kept : List SentMessage) (room : Bool) (view : View) (conn_tables : SeenTables) → Pass P (left_out_findings context flow kept room view conn_tables)
left_out_pass P context s flow kept room view conn_tables =
    let tells = reports_omitted context room view conn_tables in
    both P (option_to_list (missing_reply context flow room view conn_tables)) (option_to_list (missing_cls context flow kept room view conn_tables))
    (left_out P context s (reply_left_out flow.at flow.peer conn_tables) tells)
    (left_out P context s (cls_left_out flow.at flow.peer kept conn_tables) tells)

control : (P : Finding → Bool) (context : MessageContext) → Says P context → (flow : ObservedFlow) (kept : List SentMessage) (text : List Bool) (view : View) (conn_tables : SeenTables) → Pass P (control_findings context flow kept text view conn_tables)
control P context s flow kept text view conn_tables =
    let after = after_items context (items_said text) view in
    let now = after_talked context flow kept (items_said text) view conn_tables in
    let room = shows_all text view in
    both P (talked_findings context flow kept (items_said text) view conn_tables ++ option_to_list (missing_finding context room after)) (left_out_findings context flow kept room after now)
    (both P (talked_findings context flow kept (items_said text) view conn_tables) (option_to_list (missing_finding context room after)) (items P context s flow kept (items_said text) view conn_tables)
    (where_so P (context.sent && room && after.told && after.owes && not after.suspended && not (is_some context.busy)) (broken_by context rule.MissingRrp) (s rule.MissingRrp refl)))
    (left_out_pass P context (of_all P context s) flow kept room after now)

read : (P : Finding → Bool) (context : MessageContext) → Says P context → (reading : MessageClass) (flow : ObservedFlow) (kept : List SentMessage) (message : Message) (view : View) (conn_tables : SeenTables) → Pass P (read_findings context flow kept message view conn_tables reading)
read P context s Stop flow kept message view conn_tables = refl
read P context s Text flow kept message view conn_tables =
    both P (option_to_list (early_finding context thing.Text view)) (text_findings context flow message.leader.link message view conn_tables)
    (early P context s thing.Text view) (text_pass P context (of_all P context s) flow message.leader.link message view conn_tables)
read P context s Control flow kept message view conn_tables = control P context s flow kept message.text view conn_tables

said : (P : Finding → Bool) (context : MessageContext) → Says P context → (monitor : Monitor) (at peer : ℕ) (fresh : Bool) (r : Result Message MessageFault) → Pass P (said_findings monitor at peer context fresh r)
said P context s monitor at peer fresh (Err fault) = refl
said P context s monitor at peer fresh (Ok message) =
    let flow = observed_flow_of at peer context in
    all_where P fresh (read_findings context flow monitor.kept message (view_of monitor at peer) monitor.conn_tables (message_class message))
    (read P context s (message_class message) flow monitor.kept message (view_of monitor at peer) monitor.conn_tables)

-- ---- a message

pub message : (P : Finding → Bool) (context : MessageContext) → Says P context → (monitor : Monitor) (at peer : ℕ) (fresh : Bool) (link : ℕ) (bits : List Bool)
    → ((r : Rule) → rule_of_message (message_in bits) link (judged_bits (message_in bits) bits) ≡ Some r → P (broken_by context r) ≡ true)
    → Pass P (message_findings monitor at peer context fresh link bits)
message P context s monitor at peer fresh link bits h =
    both P (option_to_list (option_map (broken_by context) (rule_of_message (message_in bits) link (judged_bits (message_in bits) bits)))) (said_findings monitor at peer context fresh (message_in bits))
    (mapped P (broken_by context) (rule_of_message (message_in bits) link (judged_bits (message_in bits) bits)) h)
    (said P context s monitor at peer fresh (message_in bits))

-- ---- what comes: the finding is the subnet's, or another host's

abbrev pub SparesOthers : (Finding → Bool) → ℕ → Type 0
SparesOthers P me = ((r : Rule) → P (by_imp r) ≡ true) × ((host : ℕ) (r : Rule) → (host == me) ≡ false → P (by_host host r) ≡ true)

answer : (P : Finding → Bool) (me : ℕ) → SparesOthers P me → (monitor : Monitor) (kind peer link : ℕ) → Pass P (answer_findings monitor kind me peer link)
answer P me s monitor kind peer link =
    all_unless P monitor.full (option_to_list (false_finding monitor kind me peer link) ++ option_to_list (stray_finding monitor kind me peer link))
    (both P (option_to_list (false_finding monitor kind me peer link)) (option_to_list (stray_finding monitor kind me peer link))
    (mapped_where P (sees_both monitor peer && not (is_crowded monitor me peer)) by_imp (false_rule (slot_of_link monitor me peer link) kind peer link) (λ r e. s.0 r))
    (mapped P by_imp (stray_rule (slot_of_link monitor me peer link) kind link) (λ r e. s.0 r)))

coming : (P : Finding → Bool) (me : ℕ) → SparesOthers P me → (monitor : Monitor) (bits : List Bool) (peer link : ℕ) → (peer == me) ≡ false → Pass P (event_findings monitor FromImp me bits (event.In peer link))
coming P me s monitor bits peer link e =
    let after = after_in monitor me peer link in
    let context = turn_at after me peer peer false in
    both P (option_to_list (unsent_finding monitor me peer link bits)) (message_findings after me peer context true link bits)
    (mapped_where P (judges_coming monitor me peer) (λ (why : Unsent). by_imp (rule.Unsent peer link why)) (unsent_at monitor me peer link bits) (λ why u. s.0 (rule.Unsent peer link why)))
    (message P context (λ r t. s.1 peer r e) after me peer true link bits (λ r t. s.1 peer r e))

pub comes : (P : Finding → Bool) (me : ℕ) → SparesOthers P me → (monitor : Monitor) (bits : List Bool) → Pass P (record_findings monitor FromImp me bits)
comes P me s monitor bits = go (leader_in bits)
  where
    by_kind : (leader : Leader) (a b : Bool) → (leader.host == me) ≡ b → (c : Bool)
        → Pass P (event_findings (sees monitor me) FromImp me bits (if a then event.Nothing else if b then event.Own leader.kind leader.link else if c then event.In leader.host leader.link else event.Answer leader.kind leader.host leader.link))
    by_kind leader true b e c = refl
    by_kind leader false true e c = one P (by_imp (rule.OwnHost leader.kind leader.link)) (s.0 (rule.OwnHost leader.kind leader.link))
    by_kind leader false false e true = coming P me s (sees monitor me) bits leader.host leader.link e
    by_kind leader false false e false = answer P me s (sees monitor me) leader.kind leader.host leader.link

    go : (r : Result Leader Short) → Pass P (event_findings (sees monitor me) FromImp me bits (event_after FromImp me r))
    go (Err short) = one P (by_imp (rule.Short (length bits))) (s.0 (rule.Short (length bits)))
    go (Ok leader) = by_kind leader (not (leader.kind == 0) && not (is_answer leader.kind)) (leader.host == me) refl (leader.kind == 0)

-- ---- what goes out

pub goes_said : (P : Finding → Bool) (monitor : Monitor) (me n on : ℕ) (bits : List Bool) → leader_in bits ≡ Ok (to_host n on) → (n == me) ≡ false
    → Pass P (option_to_list (out_finding (sees monitor me) me n on bits))
    → ((r : Rule) → rule_of_message (message_in bits) on (judged_bits (message_in bits) bits) ≡ Some r → P (by_host me r) ≡ true)
    → Pass P (said_findings (monitor_after_out (sees monitor me) me n on bits) me n (turn_at (monitor_after_out (sees monitor me) me n on bits) me n me true) (fresh_out (sees monitor me) me n on bits) (message_in bits))
    → Pass P (record_findings monitor ToImp me bits)
goes_said P monitor me n on bits led apart link own rest =
    let v = sees monitor me in
    let after = monitor_after_out v me n on bits in
    let context = turn_at after me n me true in
    let fresh = fresh_out v me n on bits in
    subst (λ (e : InterfaceEvent). Pass P (event_findings v ToImp me bits e)) (sym (goes_to me n on bits led apart))
    (both P (option_to_list (out_finding v me n on bits)) (message_findings after me n context fresh on bits) link
    (both P (option_to_list (option_map (broken_by context) (rule_of_message (message_in bits) on (judged_bits (message_in bits) bits)))) (said_findings after me n context fresh (message_in bits))
    (mapped P (broken_by context) (rule_of_message (message_in bits) on (judged_bits (message_in bits) bits)) own) rest))

pub goes : (P : Finding → Bool) (monitor : Monitor) (me n on : ℕ) (bits : List Bool) → leader_in bits ≡ Ok (to_host n on) → (n == me) ≡ false
    → ((r : Rule) → is_said r ≡ true → P (by_host me r) ≡ true)
    → Pass P (option_to_list (out_finding (sees monitor me) me n on bits))
    → ((r : Rule) → rule_of_message (message_in bits) on (judged_bits (message_in bits) bits) ≡ Some r → P (by_host me r) ≡ true)
    → Pass P (record_findings monitor ToImp me bits)
goes P monitor me n on bits led apart s link own =
    let v = sees monitor me in
    let after = monitor_after_out v me n on bits in
    goes_said P monitor me n on bits led apart link own (said P (turn_at after me n me true) s after me n (fresh_out v me n on bits) (message_in bits))
