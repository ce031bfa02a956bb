-- Judging a message and its items, in terms of the structures that the code uses: a context, a command
-- about a connection, a link between two hosts, and a message whose contents are judged.
use Rattle.std.specs.Prelude.{ℕ, Bool, List, Option, Result}
use Rattle.std.specs.Option.{option_to_list}
use Rattle.ncp_leader.specs.Message.{Message}
use Rattle.ncp_wire.specs.declared.command.Command.{Command}
use Rattle.ncp_wire.specs.declared.fault.CommandFault.{CommandFault}
use Rattle.ncp_monitor.specs.declared.finding.Finding.{Finding}
use Rattle.ncp_monitor.specs.declared.finding.Rule.{Rule}
use Rattle.ncp_interface.specs.declared.sent_message.SentMessage.{SentMessage}
use Rattle.ncp_interface.specs.declared.request.Request.{Request}
use Rattle.ncp_monitor.specs.declared.observed_flow.About.{About}
use Rattle.ncp_monitor.specs.declared.observed_flow.ObservedFlow.{ObservedFlow}
use Rattle.ncp_monitor.specs.declared.observed_flow.Acceptance.{Acceptance}
use Rattle.ncp_monitor.specs.declared.talked.JudgeContext.{JudgeContext}
use Rattle.ncp_monitor.specs.declared.monitor.Heard.{Heard}
use Rattle.ncp_interface.specs.declared.observed_link.ObservedLink.{ObservedLink}
use Rattle.ncp_monitor.specs.declared.monitor.Monitor.{Monitor}
use Rattle.ncp_monitor.specs.declared.view.View.{View}
use Rattle.ncp_monitor.specs.ConnStates.{SeenTables, index_with_sockets, conn_of}
use Rattle.ncp_monitor.specs.Phases.{after_items, after_room}
use Rattle.ncp_monitor.specs.Requests.{request_acceptance, tables_after_request, cls_acceptance, cls_rule, after_cls}
use Rattle.ncp_interface.specs.Contents.{message_class, items_said}
use Rattle.ncp_monitor.specs.Speaking.{after_right_cls}
use Rattle.ncp_monitor.specs.Talked.{all_findings, talked_findings}
use Rattle.ncp_monitor.specs.Judged.{shows_all, control_findings, read_findings, tables_after_read, out_finding, unsent_finding, regular_findings, after_regular, message_findings, after_message}

-- ---- a command about a connection

abbrev pub index_of_flow : ObservedFlow → ℕ → ℕ → SeenTables → Option ℕ
index_of_flow flow local remote conn_tables = index_with_sockets flow.at flow.peer local remote conn_tables.conns

abbrev pub acceptance_about : ObservedFlow → About → Bool → Request → SeenTables → Acceptance
acceptance_about flow about right request conn_tables = request_acceptance flow about.command about.local about.remote right request conn_tables

abbrev pub after_request_about : ObservedFlow → About → Bool → Request → SeenTables → SeenTables
after_request_about flow about right request conn_tables =
    tables_after_request flow about.command about.local about.remote request (acceptance_about flow about right request conn_tables) conn_tables

abbrev pub cls_acceptance_about : ObservedFlow → About → SeenTables → Acceptance
cls_acceptance_about flow about conn_tables = cls_acceptance flow about.command about.local about.remote conn_tables

abbrev pub cls_rule_about : ObservedFlow → About → List SentMessage → SeenTables → Option Rule
cls_rule_about flow about kept conn_tables = cls_rule flow about.command about.local about.remote kept conn_tables (cls_acceptance_about flow about conn_tables)

abbrev pub after_cls_about : ObservedFlow → List SentMessage → About → SeenTables → SeenTables
after_cls_about flow kept about conn_tables =
    after_right_cls flow kept (conn_of flow.at flow.peer about.local about.remote conn_tables.conns) (cls_acceptance_about flow about conn_tables)
    (after_cls flow about.command about.local about.remote (cls_acceptance_about flow about conn_tables) conn_tables)

-- ---- the items of a context, and the contents of its message

abbrev pub found_of_item : JudgeContext → Result Command CommandFault → View → SeenTables → List Finding
found_of_item judge_context item view conn_tables = all_findings judge_context.context judge_context.flow judge_context.kept.now item view conn_tables

abbrev pub found_of_items : JudgeContext → List Bool → View → SeenTables → List Finding
found_of_items judge_context text view conn_tables = talked_findings judge_context.context judge_context.flow judge_context.kept.now (items_said text) view conn_tables

abbrev pub view_after_control : JudgeContext → List Bool → View → View
view_after_control judge_context text view = after_room judge_context.context (shows_all text view) (after_items judge_context.context (items_said text) view)

abbrev pub found_of_control : JudgeContext → List Bool → View → SeenTables → List Finding
found_of_control judge_context text view conn_tables = control_findings judge_context.context judge_context.flow judge_context.kept.now text view conn_tables

abbrev pub found_of_reading : JudgeContext → Message → View → SeenTables → List Finding
found_of_reading judge_context message view conn_tables = read_findings judge_context.context judge_context.flow judge_context.kept.now message view conn_tables (message_class message)

abbrev pub tables_after_scene : JudgeContext → Message → View → SeenTables → SeenTables
tables_after_scene judge_context message view conn_tables =
    tables_after_read judge_context.context judge_context.flow judge_context.kept.now message view conn_tables (message_class message)

-- ---- a message on a link, and its contents

abbrev pub found_going_out : Monitor → ObservedLink → List Bool → List Finding
found_going_out monitor line bits = option_to_list (out_finding monitor line.at line.peer line.link bits)

abbrev pub found_coming : Monitor → ObservedLink → List Bool → List Finding
found_coming monitor line bits = option_to_list (unsent_finding monitor line.at line.peer line.link bits)

abbrev pub found_of_regular : Monitor → Heard → Message → List Finding
found_of_regular monitor heard message = regular_findings monitor heard.line.at heard.line.peer heard.context heard.fresh message

abbrev pub after_regular_heard : Monitor → Heard → Message → Monitor
after_regular_heard monitor heard message = after_regular monitor heard.line.at heard.line.peer heard.context heard.fresh message

abbrev pub found_of_message : Monitor → Heard → List Bool → List Finding
found_of_message monitor heard bits = message_findings monitor heard.line.at heard.line.peer heard.context heard.fresh heard.line.link bits

abbrev pub after_message_heard : Monitor → Heard → List Bool → Monitor
after_message_heard monitor heard bits = after_message monitor heard.line.at heard.line.peer heard.context heard.fresh bits
