-- The items of a control text (its commands, and the fault at its end) by the rules of resets (Phases),
-- and by those of commands between hosts that are up. An item that is judged by the latter leaves the
-- phase unchanged, but for `acted`.
use Rattle.std.specs.Prelude.{ℕ, not, ◌&&◌, ◌||◌, Bool, false, List, [], ◌∷◌, ◌++◌, map, Option, None, Some, option_map, Result, if◌then◌else◌}
use Rattle.std.specs.Option.{option_to_list}
use Rattle.ncp_leader.specs.Message.{Message}
use Rattle.ncp_wire.specs.declared.command.Command.{Command}
use Rattle.ncp_wire.specs.declared.fault.CommandFault.{CommandFault}
use Rattle.ncp_monitor.specs.declared.act.Act.{Act}
use Rattle.ncp_monitor.specs.declared.act.Act.TheVariants.{Reset, Reply, Other}
use Rattle.ncp_monitor.specs.declared.finding.Finding.{Finding}
use Rattle.ncp_monitor.specs.declared.finding.Rule.TheVariants as rule
use Rattle.ncp_monitor.specs.declared.finding.ItemKind.{ItemKind}
use Rattle.ncp_monitor.specs.declared.finding.ItemKind.TheVariants as thing
use Rattle.ncp_interface.specs.declared.sent_message.SentMessage.{SentMessage}
use Rattle.ncp_monitor.specs.declared.phase.MessageContext.{MessageContext}
use Rattle.ncp_monitor.specs.declared.observed_flow.ObservedFlow.{ObservedFlow}
use Rattle.ncp_monitor.specs.declared.view.View.{View}
use Rattle.ncp_monitor.specs.Acts.{act_of}
use Rattle.ncp_monitor.specs.Views.{awaits_reply, more_waiting}
use Rattle.ncp_monitor.specs.Phases.{broken_by, is_early, is_acted_on, hears_reset, item_findings, after_item}
use Rattle.ncp_monitor.specs.ConnStates.{SeenTables, tables_cleared}
use Rattle.ncp_monitor.specs.Speaking.{spoken_rule, spoken_numbers, after_spoken, reply_left_out, cls_left_out, after_all_said}
use Rattle.ncp_monitor.specs.Texts.{text_rules, conn_tables_after_text}

-- the flow of a message
abbrev pub observed_flow_of : ℕ → ℕ → MessageContext → ObservedFlow
observed_flow_of at peer context = record { at = at; peer = peer; sent = context.sent }

-- an item is judged if it is not early, or the host acts on it before its RRP; if the session is not
-- suspended; and if the host does not drop it while it awaits an RRP
abbrev pub reaches : MessageContext → ItemKind → View → Bool
reaches context what view =
    view.told && (not (is_early context what view) || is_acted_on context view) && not view.suspended && not (not context.sent && awaits_reply view.host.wait)

abbrev pub act_reaches : MessageContext → Act → View → Bool
act_reaches context Reset view = false
act_reaches context Reply view = false
act_reaches context (Other what) view = reaches context what view

-- an RST of the peer clears the tables; so does one of the host if an RRP is then awaited
abbrev pub clears : MessageContext → Act → View → Bool
clears context Reset view = hears_reset context view && not (context.sent && not (awaits_reply (more_waiting view.host.wait)))
clears context Reply view = false
clears context (Other what) view = false

abbrev pub flow_finding : MessageContext → ObservedFlow → List SentMessage → Result Command CommandFault → View → SeenTables → Option Finding
flow_finding context flow kept item view conn_tables = if act_reaches context (act_of item) view then option_map (broken_by context) (spoken_rule flow kept item conn_tables) else None

-- in addition, those about the numbers of a RET
abbrev pub number_findings : MessageContext → ObservedFlow → Result Command CommandFault → View → SeenTables → List Finding
number_findings context flow item view conn_tables = if act_reaches context (act_of item) view then map (broken_by context) (spoken_numbers flow item conn_tables) else []

abbrev pub after_flow : MessageContext → ObservedFlow → List SentMessage → Result Command CommandFault → View → SeenTables → SeenTables
after_flow context flow kept item view conn_tables =
    if clears context (act_of item) view then tables_cleared flow.at flow.peer conn_tables
    else if act_reaches context (act_of item) view then after_spoken flow kept item conn_tables
    else conn_tables

-- all items of a control text, in order; the view after them is that of `after_items`

abbrev pub all_findings : MessageContext → ObservedFlow → List SentMessage → Result Command CommandFault → View → SeenTables → List Finding
all_findings context flow kept item view conn_tables =
    item_findings context item view ++ option_to_list (flow_finding context flow kept item view conn_tables) ++ number_findings context flow item view conn_tables

abbrev pub talked_findings : MessageContext → ObservedFlow → List SentMessage → List (Result Command CommandFault) → View → SeenTables → List Finding
talked_findings context flow kept [] view conn_tables = []
talked_findings context flow kept (item ∷ items) view conn_tables =
    all_findings context flow kept item view conn_tables ++ talked_findings context flow kept items (after_item context item view) (after_flow context flow kept item view conn_tables)

abbrev pub after_talked : MessageContext → ObservedFlow → List SentMessage → List (Result Command CommandFault) → View → SeenTables → SeenTables
after_talked context flow kept [] view conn_tables = conn_tables
after_talked context flow kept (item ∷ items) view conn_tables = after_talked context flow kept items (after_item context item view) (after_flow context flow kept item view conn_tables)

-- ---- after them: what the host left out

abbrev pub reports_omitted : MessageContext → Bool → View → SeenTables → Bool
reports_omitted context room view conn_tables = context.sent && room && view.told && not view.suspended && not conn_tables.full

-- the first reply, and the first CLS

abbrev pub missing : MessageContext → Option Command → Option Finding
missing context None = None
missing context (Some c) = Some (broken_by context (rule.Missing c))

abbrev pub missing_reply : MessageContext → ObservedFlow → Bool → View → SeenTables → Option Finding
missing_reply context flow room view conn_tables = if reports_omitted context room view conn_tables then missing context (reply_left_out flow.at flow.peer conn_tables) else None

abbrev pub missing_cls : MessageContext → ObservedFlow → List SentMessage → Bool → View → SeenTables → Option Finding
missing_cls context flow kept room view conn_tables = if reports_omitted context room view conn_tables then missing context (cls_left_out flow.at flow.peer kept conn_tables) else None

abbrev pub left_out_findings : MessageContext → ObservedFlow → List SentMessage → Bool → View → SeenTables → List Finding
left_out_findings context flow kept room view conn_tables =
    option_to_list (missing_reply context flow room view conn_tables) ++ option_to_list (missing_cls context flow kept room view conn_tables)

abbrev pub after_left_out : MessageContext → ObservedFlow → Bool → View → SeenTables → SeenTables
after_left_out context flow room view conn_tables =
    if reports_omitted context room view conn_tables then after_all_said flow.at flow.peer conn_tables else conn_tables

-- ---- a text is sent, or arrives

abbrev pub text_findings : MessageContext → ObservedFlow → ℕ → Message → View → SeenTables → List Finding
text_findings context flow link message view conn_tables =
    if reaches context thing.Text view then map (broken_by context) (text_rules flow link message conn_tables) else []

abbrev pub after_talked_text : MessageContext → ObservedFlow → ℕ → Message → View → SeenTables → SeenTables
after_talked_text context flow link message view conn_tables =
    if reaches context thing.Text view then conn_tables_after_text flow link message conn_tables else conn_tables
