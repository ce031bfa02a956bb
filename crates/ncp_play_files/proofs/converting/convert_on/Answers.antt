use Rattle.std.proofs.Common.{◌∙◌, ◌||◌, Err, sym, ap, subst, arith}
use Rattle.std.proofs.Math.Bool.{or-false}
use Rattle.std.proofs.lemmas.Result.{err_from_is_err_and}
use Rattle.ncp_play_files.specs.declared.file.FileFault.{FileFault}
use Rattle.ncp_play_files.specs.Converted.{next_at}
use Rattle.ncp_play_files.specs.Turning.{message_printed}
use Rattle.ncp_play_files.specs.Results.{is_write_failed}
use Rattle.ncp_play_files.specs.Steps.{RendersFrom}
use Rattle.ncp_play_files.specs.Waiting.{is_waiting}
use Rattle.ncp_play_files.proofs.Turned.{at_front}
use Rattle.ncp_play_files.proofs.Progress.{from_lost, renders_on}
use Rattle.ncp_play_files.proofs.Waiting.{paid_on}
use Rattle.ncp_play_files.proofs.converting.convert_on.Goals as goal

pub returns-in_err-flush_before_wait-clause-output : goal.returns-in_err-flush_before_wait-clause-output
returns-in_err-flush_before_wait-clause-output g c = λ number bytes was said a k.
    let p = err_from_is_err_and c.from_residual.result c.from_residual.ensures.1 in
    let out = c.in_err-flush_before_wait.ensures.output in
    let turn = c.args.turn in
    let left = g.S.Source.left c.args.input.now.source.now in let written = g.W.Sink.written c.flush_before_wait.new.out.sink.now in
    rw (p.1, p.2) (
    subst (λ (fault : FileFault). RendersFrom (next_at turn.from turn.wanted) (message_printed turn.given) number bytes was said (Err fault) left c.flush_before_wait.new.out.page.now written) (sym out.0)
    (from_lost (next_at turn.from turn.wanted) (at_front turn.from turn.wanted) (message_printed turn.given) number bytes was said out.1 c.flush_before_wait.new.out.page.now left written (out.2 was said k)))

pub returns-in_err-flush_before_wait-clause-sink_mark : goal.returns-in_err-flush_before_wait-clause-sink_mark
returns-in_err-flush_before_wait-clause-sink_mark g c =
    let p = err_from_is_err_and c.from_residual.result c.from_residual.ensures.1 in
    rw (p.1, p.2) c.in_err-flush_before_wait.ensures.mark

pub returns-in_err-flush_before_wait-clause-source_mark : goal.returns-in_err-flush_before_wait-clause-source_mark
returns-in_err-flush_before_wait-clause-source_mark g c =
    let p = err_from_is_err_and c.from_residual.result c.from_residual.ensures.1 in
    rw (p.1, p.2, c.in_err-flush_before_wait.ensures.output.0) (sym (or-false _))

pub returns-in_err-flush_before_wait-clause-writes : goal.returns-in_err-flush_before_wait-clause-writes
returns-in_err-flush_before_wait-clause-writes g c =
    let p = err_from_is_err_and c.from_residual.result c.from_residual.ensures.1 in
    rw (p.1, p.2, c.in_err-flush_before_wait.ensures.output.0) (omega (arith, c.in_err-flush_before_wait.ensures.writes))

pub returns-clause-output : goal.returns-clause-output
returns-clause-output g c = λ number bytes was said a k.
    let turn = c.args.turn in
    renders_on (next_at turn.from turn.wanted) (at_front turn.from turn.wanted) (message_printed turn.given) number bytes was said c.convert_next.new.input.window.now c.convert_next.new.out.page.now (g.S.Source.left c.convert_next.new.input.source.now) (g.W.Sink.written c.convert_next.new.out.sink.now) c.convert_next.result
    (c.convert_next.ensures.output number bytes was said a (c.in_ok-flush_before_wait.ensures.output was said k))

pub returns-clause-sink_mark : goal.returns-clause-sink_mark
returns-clause-sink_mark g c = c.convert_next.ensures.sink_mark ∙ ap (λ b. b || is_write_failed c.convert_next.result) (c.in_ok-flush_before_wait.ensures.mark ∙ or-false _)

pub returns-clause-writes : goal.returns-clause-writes
returns-clause-writes g c =
    let w = g.W.Sink in let s = g.S.Source in
    let waits = is_waiting c.args.turn.from c.args.input.now.window.now in
    paid_on w.takes_all (w.writes c.args.out.now.sink.now) (w.writes c.flush_before_wait.new.out.sink.now) (w.writes c.convert_next.new.out.sink.now) (w.written c.args.out.now.sink.now) (w.written c.flush_before_wait.new.out.sink.now) (w.written c.convert_next.new.out.sink.now)
    (s.reads c.args.input.now.source.now) (s.reads c.convert_next.new.input.source.now) c.flush_before_wait.new.out.page.now c.convert_next.new.out.page.now waits c.convert_next.result c.in_ok-flush_before_wait.ensures.writes c.convert_next.ensures.writes
    c.convert_next.ensures.lowers c.in_ok-flush_before_wait.ensures.out c.convert_next.ensures.waited c.convert_next.ensures.kept
