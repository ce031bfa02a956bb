-- The findings (broken rules, and who broke them) of a message by itself, of its items (its text, or its
-- commands and their fault), and of the commands left out after them; and the effect of each.
use Rattle.std.specs.Prelude.{ℕ, Bool, List, [], ◌++◌, map, Option, Some, None, option_map, Result, if◌then◌else◌}
use Rattle.std.specs.Option.{option_to_list}
use Rattle.ncp_wire.specs.declared.command.Command.{Command}
use Rattle.ncp_wire.specs.declared.fault.CommandFault.{CommandFault}
use Rattle.ncp_monitor.specs.declared.finding.Finding.{Finding}
use Rattle.ncp_monitor.specs.declared.finding.Rule.{Rule}
use Rattle.ncp_leader.specs.declared.fault.MessageFault.{MessageFault}
use Rattle.ncp_leader.specs.Message.{Message}
use Rattle.ncp_interface.specs.declared.sent_message.LinkState.{LinkState}
use Rattle.ncp_monitor.specs.declared.link_target.ReceiveLink.{ReceiveLink}
use Rattle.ncp_monitor.specs.declared.link_target.LinkTarget.{LinkTarget}
use Rattle.ncp_monitor.specs.declared.link_target.LinkTarget.TheVariants as target
use Rattle.ncp_monitor.specs.declared.conn_state.ConnState.{ConnState}
use Rattle.ncp_monitor.specs.declared.phase.MessageContext.{MessageContext}
use Rattle.ncp_monitor.specs.declared.request.Asking.{Asking}
use Rattle.ncp_monitor.specs.declared.observed_flow.About.{About}
use Rattle.ncp_monitor.specs.declared.observed_flow.ObservedFlow.{ObservedFlow}
use Rattle.ncp_monitor.specs.declared.observed_flow.Acceptance.{Acceptance}
use Rattle.ncp_monitor.specs.declared.talked.JudgeContext.{JudgeContext}
use Rattle.ncp_interface.specs.declared.observed_link.ObservedLink.{ObservedLink}
use Rattle.ncp_monitor.specs.declared.monitor.Monitor.{Monitor}
use Rattle.ncp_monitor.specs.declared.view.View.{View}
use Rattle.ncp_monitor.specs.ConnStates.{SeenTables, conn_of}
use Rattle.ncp_monitor.specs.Messages.{rule_of_message}
use Rattle.ncp_monitor.specs.Phases.{broken_by, early_finding, missing_finding}
use Rattle.ncp_monitor.specs.Requests.{broken, tables_after_request}
use Rattle.ncp_monitor.specs.JudgeContexts.{acceptance_about, after_request_about, cls_rule_about}
use Rattle.ncp_monitor.specs.Allocation.{from_sender, link_rule, number_rules, after_gvb, after_link}
use Rattle.ncp_monitor.specs.Texts.{text_rules}
use Rattle.ncp_monitor.specs.declared.allocation.Numbers.{Numbers}
use Rattle.ncp_monitor.specs.Speaking.{eco_rule, reply_rule, command_rule, spoken_rule, spoken_numbers, reply_left_out, cls_left_out}
use Rattle.ncp_monitor.specs.Tables.{view_in, with_view}
use Rattle.ncp_monitor.specs.Talked.{missing, left_out_findings, after_talked, text_findings, after_talked_text}
use Rattle.ncp_monitor.specs.declared.finding.ItemKind.TheVariants as thing
use Rattle.ncp_monitor.specs.Judged.{view_after_out}
use Rattle.ncp_interface.specs.Contents.{items_said}

-- ---- a message

-- by itself
abbrev pub found_alone : MessageContext → Result Message MessageFault → ℕ → ℕ → List Finding
found_alone context read link len = option_to_list (option_map (broken_by context) (rule_of_message read link len))

-- after sending on a link in this state; `same`: it is the undelivered message again
abbrev pub after_seeing_out : Monitor → ObservedLink → LinkState → Bool → Monitor
after_seeing_out monitor line slot same =
    record monitor { views = with_view monitor.views line.at line.peer (view_after_out (view_in monitor.views line.at line.peer) line.link slot same) }

-- the tables after its items
abbrev pub tables_after_items : JudgeContext → List Bool → View → SeenTables → SeenTables
tables_after_items judge_context text view conn_tables = after_talked judge_context.context judge_context.flow judge_context.kept.now (items_said text) view conn_tables

-- ---- a command

-- a broken rule is reported, unless the tables are marked as full
abbrev pub reported_rule : MessageContext → SeenTables → Option Rule → List Finding
reported_rule context conn_tables rule = if conn_tables.full then [] else option_to_list (option_map (broken_by context) rule)

-- the rules that numbers break, in order
abbrev pub both_rules : Numbers → List Rule
both_rules wrong = option_to_list wrong.first ++ option_to_list wrong.second

-- none once the tables are marked as full
abbrev pub judged_rules : SeenTables → List Rule → List Rule
judged_rules conn_tables rules = if conn_tables.full then [] else rules

-- several broken rules
abbrev pub reported_rules : MessageContext → SeenTables → List Rule → List Finding
reported_rules context conn_tables rules = map (broken_by context) (judged_rules conn_tables rules)

-- the connection of the command
abbrev pub conn_about : ObservedFlow → About → SeenTables → Option ConnState
conn_about flow about conn_tables = conn_of flow.at flow.peer about.local about.remote conn_tables.conns

-- a request
abbrev pub found_asking : JudgeContext → Asking → SeenTables → List Finding
found_asking judge_context asking conn_tables = reported_rule judge_context.context conn_tables (broken (acceptance_about judge_context.flow asking.about asking.right asking.request conn_tables))

-- the tables after a request, by its acceptance
abbrev pub after_asked : ObservedFlow → Asking → Acceptance → SeenTables → SeenTables
after_asked flow asking acceptance conn_tables = tables_after_request flow asking.about.command asking.about.local asking.about.remote asking.request acceptance conn_tables

abbrev pub tables_asked : JudgeContext → Asking → SeenTables → SeenTables
tables_asked judge_context asking conn_tables = after_request_about judge_context.flow asking.about asking.right asking.request conn_tables

-- the index of the connection that a target names
abbrev pub index_of_target : LinkTarget → Option ℕ
index_of_target (target.Unasked place) = Some place
index_of_target (target.Open place) = Some place
index_of_target led = None

-- a CLS, an ECO, a reply, a command that names a link, and any command

abbrev pub found_cls : JudgeContext → About → SeenTables → List Finding
found_cls judge_context about conn_tables = reported_rule judge_context.context conn_tables (cls_rule_about judge_context.flow about judge_context.kept.now conn_tables)

abbrev pub found_eco : JudgeContext → ℕ → SeenTables → List Finding
found_eco judge_context byte conn_tables = reported_rule judge_context.context conn_tables (eco_rule judge_context.flow byte conn_tables)

abbrev pub found_reply : JudgeContext → Command → Rule → SeenTables → List Finding
found_reply judge_context reply unasked conn_tables = reported_rule judge_context.context conn_tables (reply_rule judge_context.flow reply unasked conn_tables)

abbrev pub found_link : JudgeContext → Command → ReceiveLink → SeenTables → List Finding
found_link judge_context c receive_link conn_tables = reported_rule judge_context.context conn_tables (link_rule judge_context.flow c receive_link conn_tables)

abbrev pub tables_after_link : JudgeContext → Command → ReceiveLink → SeenTables → SeenTables
tables_after_link judge_context c receive_link conn_tables = after_link judge_context.flow judge_context.kept.now c receive_link conn_tables

abbrev pub tables_after_gvb : JudgeContext → Command → ℕ → ℕ → ℕ → ℕ → SeenTables → SeenTables
tables_after_gvb judge_context c link messages bits place conn_tables = after_gvb judge_context.flow judge_context.kept.now c link messages bits place conn_tables

-- a RET, and the rules that its numbers break
abbrev pub found_ret : JudgeContext → Command → ℕ → SeenTables → List Finding
found_ret judge_context c link conn_tables =
    found_link judge_context c (from_sender judge_context.flow link) conn_tables ++ reported_rules judge_context.context conn_tables (number_rules judge_context.flow c conn_tables)

abbrev pub found_command : JudgeContext → Command → SeenTables → List Finding
found_command judge_context c conn_tables =
    reported_rule judge_context.context conn_tables (command_rule judge_context.flow judge_context.kept.now c conn_tables) ++ reported_rules judge_context.context conn_tables (number_rules judge_context.flow c conn_tables)

-- ---- an item, and the commands left out after the last

-- the rules that a command breaks
abbrev pub found_spoken : JudgeContext → Result Command CommandFault → SeenTables → List Finding
found_spoken judge_context item conn_tables =
    option_to_list (option_map (broken_by judge_context.context) (spoken_rule judge_context.flow judge_context.kept.now item conn_tables))
    ++ map (broken_by judge_context.context) (spoken_numbers judge_context.flow item conn_tables)

-- the reply and the CLS that were left out
abbrev pub found_missing : JudgeContext → SeenTables → List Finding
found_missing judge_context conn_tables =
    option_to_list (missing judge_context.context (reply_left_out judge_context.flow.at judge_context.flow.peer conn_tables))
    ++ option_to_list (missing judge_context.context (cls_left_out judge_context.flow.at judge_context.flow.peer judge_context.kept.now conn_tables))

-- all that was left out
abbrev pub found_left_out : JudgeContext → Bool → View → SeenTables → List Finding
found_left_out judge_context room view conn_tables =
    option_to_list (missing_finding judge_context.context room view) ++ left_out_findings judge_context.context judge_context.flow judge_context.kept.now room view conn_tables

-- ---- a text

-- by the rules of texts
abbrev pub found_text_said : JudgeContext → Message → SeenTables → List Finding
found_text_said judge_context message conn_tables = map (broken_by judge_context.context) (text_rules judge_context.flow message.leader.link message conn_tables)

-- the tables after it
abbrev pub tables_after_talked_text : JudgeContext → Message → View → SeenTables → SeenTables
tables_after_talked_text judge_context message view conn_tables = after_talked_text judge_context.context judge_context.flow message.leader.link message view conn_tables

-- by the rules of phases and of texts
abbrev pub found_text : JudgeContext → Message → View → SeenTables → List Finding
found_text judge_context message view conn_tables =
    option_to_list (early_finding judge_context.context thing.Text view) ++ text_findings judge_context.context judge_context.flow message.leader.link message view conn_tables
