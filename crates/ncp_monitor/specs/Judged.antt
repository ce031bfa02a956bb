-- What a record (one message of a capture, at a host's interface) shows: the rules that it breaks, in
-- order, and the monitor after it. Interface resets count for nothing here; `Resets` has what an audit
-- reports with them.
use Rattle.std.specs.Prelude.{ℕ, ◌+◌, ◌-◌, ◌^◌, min, ◌==◌, not, ◌&&◌, ◌||◌, nat_le, Bool, true, false, List, [], ◌∷◌, ◌++◌, length, replicate, get_or, slice_set, Option, Some, None, option_map, Result, Ok, Err, if◌then◌else◌}
use Rattle.std.specs.Option.{option_to_list}
use Rattle.ncp_leader.specs.declared.fault.MessageFault.{MessageFault}
use Rattle.ncp_leader.specs.Message.{Message, message_in}
use Rattle.ncp_interface.specs.declared.imp_direction.ImpDirection.{ImpDirection}
use Rattle.ncp_interface.specs.declared.imp_direction.ImpDirection.TheVariants.{ToImp, FromImp}
use Rattle.ncp_monitor.specs.declared.finding.Finding.{Finding}
use Rattle.ncp_monitor.specs.declared.finding.Rule.{Rule}
use Rattle.ncp_monitor.specs.declared.finding.Rule.TheVariants as rule
use Rattle.ncp_monitor.specs.declared.finding.Unsent.{Unsent}
use Rattle.ncp_monitor.specs.declared.finding.Unsent.TheVariants.{NotOut, Twice, Altered}
use Rattle.ncp_monitor.specs.declared.finding.ItemKind.TheVariants as thing
use Rattle.ncp_monitor.specs.declared.finding.Who.{Who}
use Rattle.ncp_monitor.specs.declared.finding.Who.TheVariants.{Host, Imp}
use Rattle.ncp_interface.specs.declared.sent_message.LinkState.{LinkState}
use Rattle.ncp_interface.specs.declared.sent_message.LinkState.TheVariants as slot
use Rattle.ncp_interface.specs.declared.sent_message.SentMessage.{SentMessage}
use Rattle.ncp_monitor.specs.declared.view.View.{View}
use Rattle.ncp_monitor.specs.declared.views.TheConstants.{HOSTS, VIEWS}
use Rattle.ncp_interface.specs.declared.event.InterfaceEvent.{InterfaceEvent}
use Rattle.ncp_interface.specs.declared.event.InterfaceEvent.TheVariants as event
use Rattle.ncp_interface.specs.declared.message_class.MessageClass.{MessageClass}
use Rattle.ncp_interface.specs.declared.message_class.MessageClass.TheVariants.{Stop, Text, Control}
use Rattle.ncp_monitor.specs.declared.phase.MessageContext.{MessageContext}
use Rattle.ncp_monitor.specs.declared.monitor.Monitor.{Monitor}
use Rattle.ncp_monitor.specs.Views.{is_answered_too_often, new_view}
use Rattle.ncp_monitor.specs.Tables.{view_in, with_view}
use Rattle.ncp_interface.specs.Slots.{position_of, kept_slot, same_at, same_but_host_at, busy_link, gone_out, has_room, with_out, with_kept_slot, kept_at, is_unknown, is_slot_out, with_answer}
use Rattle.ncp_monitor.specs.Phases.{broken_by, early_finding, after_thing, after_items, after_room, missing_finding}
use Rattle.ncp_monitor.specs.declared.observed_flow.ObservedFlow.{ObservedFlow}
use Rattle.ncp_monitor.specs.ConnStates.{SeenTables, no_conn_tables}
use Rattle.ncp_monitor.specs.Talked.{observed_flow_of, talked_findings, after_talked, left_out_findings, after_left_out, text_findings, after_talked_text}
use Rattle.ncp_interface.specs.Events.{event_of}
use Rattle.ncp_monitor.specs.Messages.{judged_bits, rule_of_message}
use Rattle.ncp_interface.specs.Contents.{message_class, items_said}

-- nothing observed yet
abbrev pub new_monitor : Bool → Monitor
new_monitor part = record { part = part; full = false; seen = replicate HOSTS false; unclear = replicate HOSTS false; in_doubt = replicate VIEWS false; views = replicate VIEWS (new_view part); kept = []; conn_tables = no_conn_tables }

-- a record at the host's interface was observed
abbrev pub has_seen : Monitor → ℕ → Bool
has_seen monitor host = get_or monitor.seen host false

-- ---- what is known

-- a host's view of a peer; once a message found no room, its phase is not judged
abbrev pub view_of : Monitor → ℕ → ℕ → View
view_of monitor at peer = let view = view_in monitor.views at peer in record view { told = view.told && not monitor.full }

abbrev pub slot_of_link : Monitor → ℕ → ℕ → ℕ → LinkState
slot_of_link monitor from to link = kept_slot (view_in monitor.views from to).known monitor.kept (position_of from to link monitor.kept)

-- the state of link 0 is known
abbrev pub knows_zero : Monitor → ℕ → ℕ → Bool
knows_zero monitor at peer = not monitor.full && not (is_unknown (slot_of_link monitor at peer 0))

-- whom a finding about a message is against: the host that sends it, or the IMP that delivers it
abbrev pub blamed_for : ImpDirection → ℕ → Who
blamed_for ToImp at = Host at
blamed_for FromImp at = Imp

-- ---- a message is sent

-- the rule broken by sending on a link in this state; `same`: the message is the undelivered one again
abbrev pub out_rule : LinkState → Bool → ℕ → Option Rule
out_rule slot.Unknown same link = None
out_rule slot.Empty same link = None
out_rule slot.Out same link = Some (rule.Occupied link)
out_rule slot.Came same link = Some (rule.Occupied link)
out_rule slot.Again same link = if same then None else Some (rule.Changed link)

-- it is sent for the first time
abbrev pub is_fresh : LinkState → Bool → Bool
is_fresh slot.Unknown same = false
is_fresh slot.Empty same = true
is_fresh slot.Out same = true
is_fresh slot.Came same = true
is_fresh slot.Again same = not same

-- another one than the undelivered one is sent: the contents of that one never arrive
abbrev pub changes_slot : LinkState → Bool → Bool
changes_slot slot.Unknown same = false
changes_slot slot.Empty same = false
changes_slot slot.Out same = false
changes_slot slot.Came same = false
changes_slot slot.Again same = not same

abbrev pub same_of : Monitor → ℕ → ℕ → ℕ → List Bool → Bool
same_of monitor at peer link bits = same_at monitor.kept (position_of at peer link monitor.kept) bits

abbrev pub by_host : ℕ → Rule → Finding
by_host at rule = record { who = Host at; rule = rule }

abbrev pub by_imp : Rule → Finding
by_imp rule = record { who = Imp; rule = rule }

abbrev pub out_finding : Monitor → ℕ → ℕ → ℕ → List Bool → Option Finding
out_finding monitor at peer link bits =
    if monitor.full then None else option_map (by_host at) (out_rule (slot_of_link monitor at peer link) (same_of monitor at peer link bits) link)

abbrev pub fresh_out : Monitor → ℕ → ℕ → ℕ → List Bool → Bool
fresh_out monitor at peer link bits = monitor.full || is_fresh (slot_of_link monitor at peer link) (same_of monitor at peer link bits)

-- a text may pass what is queued: after an unasked RRP it may be of the session that an RST began, and the
-- host may send it before the RRP that it owes, if it acted on something
abbrev pub may_pass_reset : View → ℕ → Bool
may_pass_reset view link = view.told && (is_answered_too_often view.host.wait || view.acted) && not (link == 0)

-- the session is suspended then, or if another message is sent than the undelivered one; if one is still
-- outstanding, it is unknown which of the two arrives, or is answered
abbrev pub view_after_out : View → ℕ → LinkState → Bool → View
view_after_out view link slot same =
    record view { suspended = view.suspended || changes_slot slot same || may_pass_reset view link; overlapped = view.overlapped || is_slot_out slot }

abbrev pub monitor_after_out : Monitor → ℕ → ℕ → ℕ → List Bool → Monitor
monitor_after_out monitor at peer link bits =
    let place = position_of at peer link monitor.kept in
    if monitor.full then monitor
    else
    record monitor {
      full = not (has_room monitor.kept place);
      views = with_view monitor.views at peer (view_after_out (view_in monitor.views at peer) link (slot_of_link monitor at peer link) (same_of monitor at peer link bits));
      kept = with_out monitor.kept place (gone_out at peer link bits);
    }

-- ---- an answer arrives

-- it reports delivery of a message that has not arrived, or failure of one that has
abbrev pub false_rule : LinkState → ℕ → ℕ → ℕ → Option Rule
false_rule slot.Unknown kind host link = None
false_rule slot.Empty kind host link = None
false_rule slot.Out kind host link = if kind == 5 then Some (rule.FalseAnswer kind host link false) else None
false_rule slot.Came kind host link = if kind == 5 then None else Some (rule.FalseAnswer kind host link true)
false_rule slot.Again kind host link = None

-- no message is outstanding on its link
abbrev pub stray_rule : LinkState → ℕ → ℕ → Option Rule
stray_rule slot.Unknown kind link = None
stray_rule slot.Empty kind link = Some (rule.Stray kind link)
stray_rule slot.Out kind link = None
stray_rule slot.Came kind link = None
stray_rule slot.Again kind link = Some (rule.Stray kind link)

-- both interfaces are in the capture, which does not begin in the middle
abbrev pub sees_both : Monitor → ℕ → Bool
sees_both monitor peer = not monitor.part && has_seen monitor peer

-- two messages of one host to another were outstanding at once on one link
abbrev pub is_crowded : Monitor → ℕ → ℕ → Bool
is_crowded monitor from to = (view_in monitor.views from to).overlapped

abbrev pub false_finding : Monitor → ℕ → ℕ → ℕ → ℕ → Option Finding
false_finding monitor kind at peer link =
    if sees_both monitor peer && not (is_crowded monitor at peer) then option_map by_imp (false_rule (slot_of_link monitor at peer link) kind peer link) else None

abbrev pub stray_finding : Monitor → ℕ → ℕ → ℕ → ℕ → Option Finding
stray_finding monitor kind at peer link = option_map by_imp (stray_rule (slot_of_link monitor at peer link) kind link)

abbrev pub answer_findings : Monitor → ℕ → ℕ → ℕ → ℕ → List Finding
answer_findings monitor kind at peer link =
    if monitor.full then [] else option_to_list (false_finding monitor kind at peer link) ++ option_to_list (stray_finding monitor kind at peer link)

abbrev pub monitor_after_answer : Monitor → ℕ → ℕ → ℕ → ℕ → Monitor
monitor_after_answer monitor kind at peer link =
    if monitor.full then monitor
    else record monitor { kept = with_answer (view_in monitor.views at peer).known kind monitor.kept (position_of at peer link monitor.kept) }

-- ---- a message arrives

-- why it was not sent in this form, by the state of its link at the host that sent it
abbrev pub unsent_why : LinkState → Bool → Option Unsent
unsent_why slot.Unknown same = Some NotOut
unsent_why slot.Empty same = Some NotOut
unsent_why slot.Out same = if same then None else Some Altered
unsent_why slot.Came same = Some Twice
unsent_why slot.Again same = Some NotOut

abbrev pub judges_coming : Monitor → ℕ → ℕ → Bool
judges_coming monitor at peer = not monitor.full && sees_both monitor peer && not (is_crowded monitor peer at)

abbrev pub unsent_at : Monitor → ℕ → ℕ → ℕ → List Bool → Option Unsent
unsent_at monitor at peer link bits =
    let place = position_of peer at link monitor.kept in unsent_why (kept_slot true monitor.kept place) (same_but_host_at monitor.kept place bits)

abbrev pub unsent_finding : Monitor → ℕ → ℕ → ℕ → List Bool → Option Finding
unsent_finding monitor at peer link bits =
    if judges_coming monitor at peer then option_map (λ why. by_imp (rule.Unsent peer link why)) (unsent_at monitor at peer link bits)
    else None

-- the outstanding message was delivered
abbrev pub with_coming : List SentMessage → Option ℕ → List SentMessage
with_coming kept None = kept
with_coming kept (Some place) = if is_slot_out (kept_at kept place).slot then with_kept_slot kept place slot.Came else kept

abbrev pub after_in : Monitor → ℕ → ℕ → ℕ → Monitor
after_in monitor at peer link =
    if judges_coming monitor at peer then record monitor { kept = with_coming monitor.kept (position_of peer at link monitor.kept) } else monitor

-- ---- the contents of a message

abbrev pub turn_at : Monitor → ℕ → ℕ → ℕ → Bool → MessageContext
turn_at monitor at peer by sent = record { by = by; sent = sent; busy = busy_link at peer monitor.kept; zero = knows_zero monitor at peer }

-- a control text of at most 864 bits has room for one more command
abbrev pub is_roomy : List Bool → Bool
is_roomy text = nat_le (length text) 864

-- then no command of the host is queued. But before an RRP that it owes, the host may have gone down after
-- it acted on something, and then leaves out what it owed
abbrev pub shows_all : List Bool → View → Bool
shows_all text view = is_roomy text && not view.acted

abbrev pub control_findings : MessageContext → ObservedFlow → List SentMessage → List Bool → View → SeenTables → List Finding
control_findings context flow kept text view conn_tables =
    let items = items_said text in
    talked_findings context flow kept items view conn_tables
    ++ option_to_list (missing_finding context (shows_all text view) (after_items context items view))
    ++ left_out_findings context flow kept (shows_all text view) (after_items context items view) (after_talked context flow kept items view conn_tables)

abbrev pub after_control : MessageContext → ObservedFlow → List SentMessage → List Bool → View → SeenTables → SeenTables
after_control context flow kept text view conn_tables =
    let items = items_said text in after_left_out context flow (shows_all text view) (after_items context items view) (after_talked context flow kept items view conn_tables)

-- the findings of a message's contents, and the monitor after them
abbrev pub read_findings : MessageContext → ObservedFlow → List SentMessage → Message → View → SeenTables → MessageClass → List Finding
read_findings context flow kept message view conn_tables Stop = []
read_findings context flow kept message view conn_tables Text =
    option_to_list (early_finding context thing.Text view) ++ text_findings context flow message.leader.link message view conn_tables
read_findings context flow kept message view conn_tables Control = control_findings context flow kept message.text view conn_tables

abbrev pub after_read : MessageClass → MessageContext → List Bool → View → View
after_read Stop context text view = view
after_read Text context text view = after_thing context thing.Text view
after_read Control context text view = after_room context (shows_all text view) (after_items context (items_said text) view)

abbrev pub tables_after_read : MessageContext → ObservedFlow → List SentMessage → Message → View → SeenTables → MessageClass → SeenTables
tables_after_read context flow kept message view conn_tables Stop = conn_tables
tables_after_read context flow kept message view conn_tables Text = after_talked_text context flow message.leader.link message view conn_tables
tables_after_read context flow kept message view conn_tables Control = after_control context flow kept message.text view conn_tables

-- a message that is sent again has no new contents
abbrev pub regular_findings : Monitor → ℕ → ℕ → MessageContext → Bool → Message → List Finding
regular_findings monitor at peer context fresh message =
    if fresh then read_findings context (observed_flow_of at peer context) monitor.kept message (view_of monitor at peer) monitor.conn_tables (message_class message) else []

abbrev pub after_regular : Monitor → ℕ → ℕ → MessageContext → Bool → Message → Monitor
after_regular monitor at peer context fresh message =
    if fresh then record monitor {
      views = with_view monitor.views at peer (after_read (message_class message) context message.text (view_of monitor at peer));
      conn_tables = tables_after_read context (observed_flow_of at peer context) monitor.kept message (view_of monitor at peer) monitor.conn_tables (message_class message);
    }
    else monitor

abbrev pub said_findings : Monitor → ℕ → ℕ → MessageContext → Bool → Result Message MessageFault → List Finding
said_findings monitor at peer context fresh (Ok message) = regular_findings monitor at peer context fresh message
said_findings monitor at peer context fresh (Err fault) = []

abbrev pub after_said : Monitor → ℕ → ℕ → MessageContext → Bool → Result Message MessageFault → Monitor
after_said monitor at peer context fresh (Ok message) = after_regular monitor at peer context fresh message
after_said monitor at peer context fresh (Err fault) = monitor

abbrev pub message_findings : Monitor → ℕ → ℕ → MessageContext → Bool → ℕ → List Bool → List Finding
message_findings monitor at peer context fresh link bits =
    option_to_list (option_map (broken_by context) (rule_of_message (message_in bits) link (judged_bits (message_in bits) bits)))
    ++ said_findings monitor at peer context fresh (message_in bits)

abbrev pub after_message : Monitor → ℕ → ℕ → MessageContext → Bool → List Bool → Monitor
after_message monitor at peer context fresh bits = after_said monitor at peer context fresh (message_in bits)

-- ---- records

-- counts the next record; saturates
abbrev pub next_number : SeenTables → SeenTables
next_number conn_tables = record conn_tables { number = min (conn_tables.number + 1) (2 ^ 32 - 1) }

abbrev pub sees : Monitor → ℕ → Monitor
sees monitor at = record monitor { seen = slice_set monitor.seen at true; conn_tables = next_number monitor.conn_tables }

abbrev pub event_findings : Monitor → ImpDirection → ℕ → List Bool → InterfaceEvent → List Finding
event_findings monitor way at bits event.Short = (record { who = blamed_for way at; rule = rule.Short (length bits) }) ∷ []
event_findings monitor way at bits event.Nothing = []
event_findings monitor way at bits (event.Own kind link) = (record { who = blamed_for way at; rule = rule.OwnHost kind link }) ∷ []
event_findings monitor way at bits (event.Other kind) = by_host at (rule.Kind kind) ∷ []
event_findings monitor way at bits (event.Out peer link) =
    let after = monitor_after_out monitor at peer link bits in
    option_to_list (out_finding monitor at peer link bits)
    ++ message_findings after at peer (turn_at after at peer at true) (fresh_out monitor at peer link bits) link bits
event_findings monitor way at bits (event.Answer kind peer link) = answer_findings monitor kind at peer link
event_findings monitor way at bits (event.In peer link) =
    let after = after_in monitor at peer link in
    option_to_list (unsent_finding monitor at peer link bits)
    ++ message_findings after at peer (turn_at after at peer peer false) true link bits

abbrev pub after_event : Monitor → ℕ → List Bool → InterfaceEvent → Monitor
after_event monitor at bits event.Short = monitor
after_event monitor at bits event.Nothing = monitor
after_event monitor at bits (event.Own kind link) = monitor
after_event monitor at bits (event.Other kind) = monitor
after_event monitor at bits (event.Out peer link) =
    let after = monitor_after_out monitor at peer link bits in
    after_message after at peer (turn_at after at peer at true) (fresh_out monitor at peer link bits) bits
after_event monitor at bits (event.Answer kind peer link) = monitor_after_answer monitor kind at peer link
after_event monitor at bits (event.In peer link) =
    let after = after_in monitor at peer link in
    after_message after at peer (turn_at after at peer peer false) true bits

-- the findings of a record at a host's interface, and the monitor after it
abbrev pub record_findings : Monitor → ImpDirection → ℕ → List Bool → List Finding
record_findings monitor way at bits = event_findings (sees monitor at) way at bits (event_of way at bits)

abbrev pub after_record : Monitor → ImpDirection → ℕ → List Bool → Monitor
after_record monitor way at bits = after_event (sees monitor at) at bits (event_of way at bits)
