use Rattle.std.proofs.Common.{◌∙◌, ◌||◌, is_err, ap}
use Rattle.std.proofs.Math.Bool.{or-false}
use Rattle.ncp_play_stream.proofs.Saying.{answers_broken, answers_after, writes_prefix_longer}
use Rattle.ncp_play_audit.specs.CoverageLines.{judged_line, pair_lines, coverage_lines}
use Rattle.ncp_play_audit.proofs.coverage_line.render_coverage.Goals as goal

pub returns-in_err-render_judged-clause-output : goal.returns-in_err-render_judged-clause-output
returns-in_err-render_judged-clause-output g c =
    let w = g.W.Sink in let before = w.written c.args.out.now.sink.now in let after = w.written c.render_judged.new.out.sink.now in
    let first = judged_line c.args.monitor.now.conn_tables.number in let more = pair_lines c.args.monitor.now c.args.coverage.now in
    answers_broken c.args.out.now.page.now (coverage_lines c.args.monitor.now c.args.coverage.now) before after c.render_judged.new.out.page.now c.from_residual.result c.from_residual.ensures.0
    (writes_prefix_longer c.args.out.now.page.now first more before after (rw c.judged.ensures at c.in_err-render_judged.ensures.output))

pub returns-clause-output : goal.returns-clause-output
returns-clause-output g c =
    let w = g.W.Sink in
    let first = judged_line c.args.monitor.now.conn_tables.number in let more = pair_lines c.args.monitor.now c.args.coverage.now in
    answers_after c.args.out.now.page.now first c.render_judged.new.out.page.now more c.render_pairs.new.out.page.now (w.written c.args.out.now.sink.now) (w.written c.render_judged.new.out.sink.now) (w.written c.render_pairs.new.out.sink.now) c.render_pairs.result
    (rw c.judged.ensures at c.in_ok-render_judged.ensures.output) c.render_pairs.ensures.output

pub returns-clause-mark : goal.returns-clause-mark
returns-clause-mark g c = c.render_pairs.ensures.mark ∙ ap (λ b. b || is_err c.render_pairs.result) (c.in_ok-render_judged.ensures.mark ∙ or-false _)
