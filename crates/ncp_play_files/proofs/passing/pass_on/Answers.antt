use Rattle.std.proofs.Common.{◌∙◌, ◌||◌, List, Option, ℕ, Err, sym, ap, subst, arith}
use Rattle.std.proofs.Math.Bool.{or-false}
use Rattle.std.proofs.lemmas.Result.{err_from_is_err_and}
use Rattle.ncp_play_files.specs.declared.file.FileFault.{FileFault}
use Rattle.ncp_play_files.specs.Results.{is_write_failed}
use Rattle.ncp_play_files.specs.PassSteps.{lets_out, PassesOn, PassesFrom}
use Rattle.ncp_play_files.proofs.PassProgress.{pass_lost, passes_on, waits_too}
use Rattle.ncp_play_files.proofs.Waiting.{paid_on}
use Rattle.ncp_play_files.proofs.passing.pass_on.Goals as goal

pub returns-in_err-let_out-clause-output : goal.returns-in_err-let_out-clause-output
returns-in_err-let_out-clause-output g c = λ bytes was said a k.
    let p = err_from_is_err_and c.from_residual.result c.from_residual.ensures.1 in
    let out = c.in_err-let_out.ensures.output in
    let version = g.R.Records.version c.args.records in
    let rules = g.P.Pass.rules in let state = rules.state c.args.pass.now in
    let left = g.S.Source.left c.args.input.now.source.now in let written = g.W.Sink.written c.let_out.new.out.sink.now in
    rw (p.1, p.2) (
    subst (λ (fault : FileFault). PassesFrom rules version c.args.number.now state bytes was said (Err fault) state left c.let_out.new.out.page.now written) (sym out.0)
    (pass_lost rules version c.args.number.now state state bytes was said out.1 c.let_out.new.out.page.now left written (out.2 was said k)))

pub returns-in_err-let_out-clause-sink_mark : goal.returns-in_err-let_out-clause-sink_mark
returns-in_err-let_out-clause-sink_mark g c =
    let p = err_from_is_err_and c.from_residual.result c.from_residual.ensures.1 in
    rw (p.1, p.2) c.in_err-let_out.ensures.mark

pub returns-in_err-let_out-clause-source_mark : goal.returns-in_err-let_out-clause-source_mark
returns-in_err-let_out-clause-source_mark g c =
    let p = err_from_is_err_and c.from_residual.result c.from_residual.ensures.1 in
    rw (p.1, p.2, c.in_err-let_out.ensures.output.0) (sym (or-false _))

pub returns-in_err-let_out-clause-writes : goal.returns-in_err-let_out-clause-writes
returns-in_err-let_out-clause-writes g c =
    let p = err_from_is_err_and c.from_residual.result c.from_residual.ensures.1 in
    rw (p.1, p.2, c.in_err-let_out.ensures.output.0) (omega (arith, c.in_err-let_out.ensures.writes))

pub returns-clause-output : goal.returns-clause-output
returns-clause-output g c = λ bytes was said a k.
    let version = g.R.Records.version c.args.records in
    let rules = g.P.Pass.rules in let state = rules.state c.args.pass.now in let now = rules.state c.pass_next-passed.new.pass in
    let r = c.pass_next-passed.result in
    let page = c.pass_next-passed.new.out.page.now in let window = c.pass_next-passed.new.input.window.now in let written = g.W.Sink.written c.pass_next-passed.new.out.sink.now in
    subst (λ (left : Option (List ℕ)). PassesOn rules version c.args.number.now state bytes was said r now window left page written) (sym c.stop_at_fault.ensures.left)
    (passes_on rules version c.args.number.now state now bytes was said window page (g.S.Source.left c.pass_next-passed.new.input.source.now) written r
    (c.pass_next-passed.ensures.output bytes was said a (c.in_ok-let_out.ensures.output was said k)))

pub returns-clause-source_mark : goal.returns-clause-source_mark
returns-clause-source_mark g c = c.stop_at_fault.ensures.mark ∙ c.pass_next-passed.ensures.source_mark

pub returns-clause-sink_mark : goal.returns-clause-sink_mark
returns-clause-sink_mark g c = c.pass_next-passed.ensures.sink_mark ∙ ap (λ b. b || is_write_failed c.pass_next-passed.result) (c.in_ok-let_out.ensures.mark ∙ or-false _)

pub returns-clause-reads : goal.returns-clause-reads
returns-clause-reads g c = rw (c.stop_at_fault.ensures.left, c.stop_at_fault.ensures.reads) c.pass_next-passed.ensures.reads

pub returns-clause-taken : goal.returns-clause-taken
returns-clause-taken g c = rw (c.stop_at_fault.ensures.left, c.stop_at_fault.ensures.reads) c.pass_next-passed.ensures.taken

pub returns-clause-read_measure : goal.returns-clause-read_measure
returns-clause-read_measure g c = rw c.stop_at_fault.ensures.reads c.pass_next-passed.ensures.read_measure

pub returns-clause-writes : goal.returns-clause-writes
returns-clause-writes g c =
    let w = g.W.Sink in let s = g.S.Source in
    let waits = lets_out g.P.Pass.rules (g.R.Records.version c.args.records) c.args.input.now.window.now in
    let file = c.file.ensures in
    rw c.stop_at_fault.ensures.reads (
    paid_on w.takes_all (w.writes c.args.out.now.sink.now) (w.writes c.let_out.new.out.sink.now) (w.writes c.pass_next-passed.new.out.sink.now) (w.written c.args.out.now.sink.now) (w.written c.let_out.new.out.sink.now) (w.written c.pass_next-passed.new.out.sink.now)
    (s.reads c.args.input.now.source.now) (s.reads c.pass_next-passed.new.input.source.now) c.let_out.new.out.page.now c.pass_next-passed.new.out.page.now waits c.pass_next-passed.result (rw file at c.in_ok-let_out.ensures.writes) c.pass_next-passed.ensures.writes
    c.pass_next-passed.ensures.lowers (rw file at c.in_ok-let_out.ensures.out) (λ said waits. c.pass_next-passed.ensures.waited said (waits_too _ _ waits)) c.pass_next-passed.ensures.kept)
