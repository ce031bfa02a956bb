-- The findings of a control text are those of resets, and those of what is said while two hosts are up: where all of either
-- pass a test, all do.
use Rattle.std.proofs.Common.{Bool, ◌&&◌, List, [], ◌∷◌, ◌++◌, Result, option_to_list, refl, ap, ◌∙◌}
use Rattle.std.specs.List.{list_all}
use Rattle.std.proofs.lemmas.Bool.{and_parts}
use Rattle.ncp_wire.specs.declared.command.Command.{Command}
use Rattle.ncp_wire.specs.declared.fault.CommandFault.{CommandFault}
use Rattle.ncp_monitor.specs.declared.finding.Finding.{Finding}
use Rattle.ncp_interface.specs.declared.sent_message.SentMessage.{SentMessage}
use Rattle.ncp_monitor.specs.declared.phase.MessageContext.{MessageContext}
use Rattle.ncp_monitor.specs.declared.observed_flow.ObservedFlow.{ObservedFlow}
use Rattle.ncp_monitor.specs.declared.view.View.{View}
use Rattle.ncp_monitor.specs.Phases.{item_findings, after_item, items_findings}
use Rattle.ncp_monitor.specs.ConnStates.{SeenTables}
use Rattle.ncp_monitor.specs.Talked.{flow_finding, number_findings, after_flow, all_findings, talked_findings}
use Rattle.ncp_monitor.proofs.Passing.{Pass, both, SaysFlow, flow_pass, numbers_pass}

pub pass_parts : (P : Finding → Bool) (xs ys : List Finding) → Pass P (xs ++ ys) → Pass P xs × Pass P ys
pass_parts P [] ys a = (refl, a)
pass_parts P (x ∷ xs) ys a =
    let parts = and_parts (P x) (list_all P (xs ++ ys)) a in
    let rest = pass_parts P xs ys parts.1 in
    (ap (λ (c : Bool). c && list_all P xs) parts.0 ∙ rest.0, rest.1)

-- those of what is said, alone
abbrev pub said_findings : MessageContext → ObservedFlow → List SentMessage → List (Result Command CommandFault) → View → SeenTables → List Finding
said_findings context flow kept [] view conn_tables = []
said_findings context flow kept (item ∷ items) view conn_tables =
    option_to_list (flow_finding context flow kept item view conn_tables) ++ number_findings context flow item view conn_tables
    ++ said_findings context flow kept items (after_item context item view) (after_flow context flow kept item view conn_tables)

pub parted : (P : Finding → Bool) (context : MessageContext) (flow : ObservedFlow) (kept : List SentMessage) (items : List (Result Command CommandFault)) (view : View) (conn_tables : SeenTables)
    → Pass P (items_findings context items view) → Pass P (said_findings context flow kept items view conn_tables) → Pass P (talked_findings context flow kept items view conn_tables)
parted P context flow kept [] view conn_tables i s = refl
parted P context flow kept (item ∷ items) view conn_tables i s =
    let next = after_item context item view in
    let now = after_flow context flow kept item view conn_tables in
    let a = pass_parts P (item_findings context item view) (items_findings context items next) i in
    let b = pass_parts P (option_to_list (flow_finding context flow kept item view conn_tables) ++ number_findings context flow item view conn_tables) (said_findings context flow kept items next now) s in
    let d = pass_parts P (option_to_list (flow_finding context flow kept item view conn_tables)) (number_findings context flow item view conn_tables) b.0 in
    both P (all_findings context flow kept item view conn_tables) (talked_findings context flow kept items next now)
    (both P (item_findings context item view ++ option_to_list (flow_finding context flow kept item view conn_tables)) (number_findings context flow item view conn_tables)
    (both P (item_findings context item view) (option_to_list (flow_finding context flow kept item view conn_tables)) a.0 d.0) d.1)
    (parted P context flow kept items next now a.1 b.1)

-- a test of rules of resets alone: what is said passes it
pub said_pass : (P : Finding → Bool) (context : MessageContext) → SaysFlow P context → (flow : ObservedFlow) (kept : List SentMessage) (items : List (Result Command CommandFault)) (view : View) (conn_tables : SeenTables)
    → Pass P (said_findings context flow kept items view conn_tables)
said_pass P context s flow kept [] view conn_tables = refl
said_pass P context s flow kept (item ∷ items) view conn_tables =
    let next = after_item context item view in
    let now = after_flow context flow kept item view conn_tables in
    both P (option_to_list (flow_finding context flow kept item view conn_tables) ++ number_findings context flow item view conn_tables) (said_findings context flow kept items next now)
    (both P (option_to_list (flow_finding context flow kept item view conn_tables)) (number_findings context flow item view conn_tables)
    (flow_pass P context s flow kept item view conn_tables) (numbers_pass P context s flow item view conn_tables)) (said_pass P context s flow kept items next now)
