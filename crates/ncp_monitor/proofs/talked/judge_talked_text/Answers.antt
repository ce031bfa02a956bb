use Rattle.std.proofs.Common.{◌++◌, List, sym, ap, ◌∙◌}
use Rattle.ncp_monitor.specs.declared.finding.Finding.{Finding}
use Rattle.ncp_monitor.specs.Reporting.{found_text_said}
use Rattle.ncp_monitor.proofs.Reached.{text_found, text_unsaid}
use Rattle.ncp_monitor.proofs.talked.judge_talked_text.Goals as goal

pub returns-then-reached-clause-found : goal.returns-then-reached-clause-found
returns-then-reached-clause-found c =
    c.judge_text.ensures.found
    ∙ ap (λ (xs : List Finding). xs ++ found_text_said c.args.judge_context c.args.regular.now c.args.conn_tables.now) c.judge_thing.ensures.found
    ∙ text_found c.args.found.now c.args.judge_context c.args.regular.now c.args.view.now c.args.conn_tables.now (sym c.reaches-reached.ensures ∙ c.if-reached.true)

pub returns-else-reached-clause-found : goal.returns-else-reached-clause-found
returns-else-reached-clause-found c =
    c.judge_thing.ensures.found
    ∙ ap (λ (xs : List Finding). c.args.found.now ++ xs) (text_unsaid c.args.judge_context c.args.regular.now c.args.view.now c.args.conn_tables.now (sym c.reaches-reached.ensures ∙ c.if-reached.false))
