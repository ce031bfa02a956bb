-- What is found of an item and of a text that is judged by the rules of what is said: what the rules of phases find, then what those find.
use Rattle.std.proofs.Common.{◌≡◌, ◌≤◌, Bool, true, false, if◌then◌else◌, List, [], ◌++◌, length, map, Option, None, Some, Result, option_map, option_to_list, sym, ap, ◌∙◌, arith}
use Rattle.std.proofs.lemmas.List.{append_assoc, append-nil}
use Rattle.ncp_wire.specs.declared.command.Command.{Command}
use Rattle.ncp_wire.specs.declared.fault.CommandFault.{CommandFault}
use Rattle.ncp_monitor.specs.declared.act.Act.{Act}
use Rattle.ncp_monitor.specs.declared.act.Act.TheVariants.{Reset, Reply, Other}
use Rattle.ncp_monitor.specs.declared.finding.Finding.{Finding}
use Rattle.ncp_monitor.specs.declared.finding.ItemKind.TheVariants as thing
use Rattle.ncp_leader.specs.Message.{Message}
use Rattle.ncp_monitor.specs.Texts.{text_rules}
use Rattle.ncp_monitor.specs.declared.phase.MessageContext.{MessageContext}
use Rattle.ncp_monitor.specs.declared.talked.JudgeContext.{JudgeContext}
use Rattle.ncp_monitor.specs.declared.view.View.{View}
use Rattle.ncp_monitor.specs.Acts.{act_of}
use Rattle.ncp_monitor.specs.ConnStates.{SeenTables}
use Rattle.ncp_monitor.specs.Phases.{broken_by, early_finding, bad_finding, act_findings, item_findings}
use Rattle.ncp_monitor.specs.Speaking.{spoken_rule, spoken_numbers}
use Rattle.ncp_monitor.specs.Talked.{reaches, act_reaches}
use Rattle.ncp_monitor.specs.Reporting.{found_spoken, found_text}
use Rattle.ncp_monitor.specs.JudgeContexts.{found_of_item}

-- at most two findings of the rules of phases: its fault, and that it is early
both_few : (a b : Option Finding) → length (option_to_list a ++ option_to_list b) ≤ 2
both_few None None = omega arith
both_few None (Some y) = omega arith
both_few (Some x) None = omega arith
both_few (Some x) (Some y) = omega arith

pub reached_few : (context : MessageContext) (item : Result Command CommandFault) (view : View) → act_reaches context (act_of item) view ≡ true → length (item_findings context item view) ≤ 2
reached_few context item view = go (act_of item)
  where
    go : (act : Act) → act_reaches context act view ≡ true → length (option_to_list (bad_finding context item) ++ act_findings context act view) ≤ 2
    go Reset r = absurd (cc r)
    go Reply r = absurd (cc r)
    go (Other what) r = both_few (bad_finding context item) (early_finding context what view)

pub reached_found : (found : List Finding) (judge_context : JudgeContext) (item : Result Command CommandFault) (view : View) (conn_tables : SeenTables) → act_reaches judge_context.context (act_of item) view ≡ true
    → found ++ item_findings judge_context.context item view ++ found_spoken judge_context item conn_tables ≡ found ++ found_of_item judge_context item view conn_tables
reached_found found judge_context item view conn_tables r =
    let own : List Finding = item_findings judge_context.context item view in
    let said : List Finding = option_to_list (option_map (broken_by judge_context.context) (spoken_rule judge_context.flow judge_context.kept.now item conn_tables)) in
    let numbers : List Finding = map (broken_by judge_context.context) (spoken_numbers judge_context.flow item conn_tables) in
    append_assoc found own (said ++ numbers)
    ∙ ap (λ (xs : List Finding). found ++ xs) (
    sym (append_assoc own said numbers)
    ∙ sym (ap (λ (b : Bool). own ++ option_to_list (if b then option_map (broken_by judge_context.context) (spoken_rule judge_context.flow judge_context.kept.now item conn_tables) else None) ++ (if b then numbers else [])) r))

-- and so of a text
pub text_found : (found : List Finding) (judge_context : JudgeContext) (message : Message) (view : View) (conn_tables : SeenTables) → reaches judge_context.context thing.Text view ≡ true
    → found ++ option_to_list (early_finding judge_context.context thing.Text view) ++ map (broken_by judge_context.context) (text_rules judge_context.flow message.leader.link message conn_tables) ≡ found ++ found_text judge_context message view conn_tables
text_found found judge_context message view conn_tables r =
    let early : List Finding = option_to_list (early_finding judge_context.context thing.Text view) in
    let said : List Finding = map (broken_by judge_context.context) (text_rules judge_context.flow message.leader.link message conn_tables) in
    append_assoc found early said ∙ sym (ap (λ (b : Bool). found ++ (early ++ (if b then said else []))) r)

pub text_unsaid : (judge_context : JudgeContext) (message : Message) (view : View) (conn_tables : SeenTables) → reaches judge_context.context thing.Text view ≡ false
    → option_to_list (early_finding judge_context.context thing.Text view) ≡ found_text judge_context message view conn_tables
text_unsaid judge_context message view conn_tables r =
    let early : List Finding = option_to_list (early_finding judge_context.context thing.Text view) in
    sym (ap (λ (b : Bool). early ++ (if b then map (broken_by judge_context.context) (text_rules judge_context.flow message.leader.link message conn_tables) else [])) r ∙ append-nil early)
