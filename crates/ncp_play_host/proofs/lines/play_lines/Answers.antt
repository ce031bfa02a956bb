use Rattle.std.proofs.Common.{◌∙◌, Option, Ok}
use Rattle.std.proofs.Math.Bool.{or-false}
use Rattle.std.proofs.lemmas.Result.{err_from_is_err_and}
use Rattle.ncp_play_host.specs.declared.lines.LinesEnd.{LinesEnd}
use Rattle.ncp_play_host.proofs.Does.{does_after}
use Rattle.ncp_play_host.proofs.Telling.{prints_end, none_is}
use Rattle.ncp_play_host.proofs.lines.play_lines.Goals as goal

pub returns-in_err-end-clause-events : goal.returns-in_err-end-clause-events
returns-in_err-end-clause-events g c = λ bytes ahead.
    let before = c.loop-end.invariant.events bytes ahead in
    let p = err_from_is_err_and c.from_residual.result c.from_residual.ensures.1 in
    before.2 c.from_residual.result c.play_next.new.alone c.play_next.new.script.lines.now.window (g.R.Source.left c.play_next.new.script.source.now) (rw (p.1, p.2) (c.in_err-end.ensures.events before.0 before.1))

pub returns-in_err-end-clause-output : goal.returns-in_err-end-clause-output
returns-in_err-end-clause-output g c = λ was first tells.
    let p = err_from_is_err_and c.from_residual.result c.from_residual.ensures.1 in
    prints_end (Option LinesEnd) LinesEnd was first c.play_next.new.alone.notes c.from_residual.result p.0 c.play_next.new.heading c.play_next.new.out.page.now (g.W.Sink.written c.play_next.new.out.sink.now) p.1
    (rw p.2 (c.in_err-end.ensures.output was first (c.loop-end.invariant.told was first tells)))

pub returns-in-Some-clause-events : goal.returns-in-Some-clause-events
returns-in-Some-clause-events g c = λ bytes ahead.
    let before = c.loop-end.invariant.events bytes ahead in
    before.2 (Ok c.in-Some.end) c.play_next.new.alone c.play_next.new.script.lines.now.window (g.R.Source.left c.play_next.new.script.source.now) (rw c.in-Some.is at (c.in_ok-end.ensures.events before.0 before.1))

pub returns-in-Some-clause-output : goal.returns-in-Some-clause-output
returns-in-Some-clause-output g c = λ was first tells. c.in_ok-end.ensures.output was first (c.loop-end.invariant.told was first tells)

pub loop-end-preserved : goal.loop-end-preserved
loop-end-preserved g c =
    record {
      events = λ bytes ahead.
          let before = c.loop-end.invariant.events bytes ahead in
          let one = rw (none_is c.in_ok-end.field-0 c.in_default.not-Some) at (c.in_ok-end.ensures.events before.0 before.1) in
          let asks = one.1 in (
            asks.0,
            asks.2,
            λ r alone window left does.
                before.2 r alone window left
                (does_after c.args.peers.now c.loop-end.script.lines.now.number before.0 one.0 c.loop-end.alone c.play_next.new.alone c.play_next.new.script.lines.now (g.R.Source.left c.play_next.new.script.source.now) asks one.2 r alone window left does),
          );
      told = λ was first tells. c.in_ok-end.ensures.output was first (c.loop-end.invariant.told was first tells);
      source_mark = c.in_ok-end.ensures.source_mark ∙ or-false _ ∙ c.loop-end.invariant.source_mark;
      sink_mark = c.in_ok-end.ensures.sink_mark ∙ or-false _ ∙ c.loop-end.invariant.sink_mark;
      same_script = (c.in_ok-end.ensures.same_script.0 ∙ c.loop-end.invariant.same_script.0, c.in_ok-end.ensures.same_script.1 ∙ c.loop-end.invariant.same_script.1);
      same_outlet = (c.in_ok-end.ensures.same_outlet.0 ∙ c.loop-end.invariant.same_outlet.0, c.in_ok-end.ensures.same_outlet.1 ∙ c.loop-end.invariant.same_outlet.1);
    }
