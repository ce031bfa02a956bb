use Rattle.std.proofs.Common.{◌++◌, List, length, sym, ap, ◌∙◌, arith}
use Rattle.std.proofs.lemmas.List.{length-append}
use Rattle.ncp_monitor.specs.declared.act.Act.{Act}
use Rattle.ncp_monitor.specs.declared.finding.Finding.{Finding}
use Rattle.ncp_monitor.specs.Phases.{item_findings}
use Rattle.ncp_monitor.specs.Talked.{act_reaches}
use Rattle.ncp_monitor.specs.Reporting.{found_spoken}
use Rattle.ncp_monitor.proofs.Reached.{reached_few, reached_found}
use Rattle.ncp_monitor.proofs.monitor.judge_said.Goals as goal

pub judge_spoken-requires : goal.judge_spoken-requires
judge_spoken-requires c =
    let few = reached_few c.args.judge_context.context c.args.item.now c.args.view.now (ap (λ (act : Act). act_reaches c.args.judge_context.context act c.args.view.now) (sym c.act_of-act.ensures) ∙ sym c.act_reaches.ensures ∙ c.if-act_reaches.true) in
    let whole = ap (λ (xs : List Finding). length xs) c.judge_item.ensures.found ∙ length-append c.args.found.now (item_findings c.args.judge_context.context c.args.item.now c.args.view.now) in
    omega (arith, few, whole, c.requires)

pub returns-then-act_reaches-clause-found : goal.returns-then-act_reaches-clause-found
returns-then-act_reaches-clause-found c =
    c.judge_spoken.ensures.found
    ∙ ap (λ (xs : List Finding). xs ++ found_spoken c.args.judge_context c.args.item.now c.args.conn_tables.now) c.judge_item.ensures.found
    ∙ reached_found c.args.found.now c.args.judge_context c.args.item.now c.args.view.now c.args.conn_tables.now
    (ap (λ (act : Act). act_reaches c.args.judge_context.context act c.args.view.now) (sym c.act_of-act.ensures) ∙ sym c.act_reaches.ensures ∙ c.if-act_reaches.true)

pub returns-then-act_reaches-clause-len : goal.returns-then-act_reaches-clause-len
returns-then-act_reaches-clause-len c =
    let few = reached_few c.args.judge_context.context c.args.item.now c.args.view.now (ap (λ (act : Act). act_reaches c.args.judge_context.context act c.args.view.now) (sym c.act_of-act.ensures) ∙ sym c.act_reaches.ensures ∙ c.if-act_reaches.true) in
    let whole = ap (λ (xs : List Finding). length xs) c.judge_item.ensures.found ∙ length-append c.args.found.now (item_findings c.args.judge_context.context c.args.item.now c.args.view.now) in
    omega (arith, few, whole, c.judge_spoken.ensures.len)
