use Rattle.std.proofs.Common.{Bool, Ok, Err, ◌∙◌}
use Rattle.std.proofs.Math.Bool.{or-false}
use Rattle.std.proofs.lemmas.Result.{err_from_is_err_and}
use Rattle.ncp_play_simulation.proofs.PlayedLines.{prints_err}
use Rattle.ncp_play_simulation.proofs.player.play_lines.Goals as goal

pub returns-in_err-play_next-clause-events : goal.returns-in_err-play_next-clause-events
returns-in_err-play_next-clause-events g c = λ bytes ahead.
    let p = err_from_is_err_and c.from_residual.result c.from_residual.ensures.1 in
    let before = c.loop.invariant.events bytes ahead in
    rw (p.1, p.2) (before.2 (Err c.in_err-play_next.field-0.0) c.play_next.new.player.hosts (g.R.Source.left c.play_next.new.script.source.now) (c.in_err-play_next.ensures.events before.0 before.1))

pub returns-in_err-play_next-clause-output : goal.returns-in_err-play_next-clause-output
returns-in_err-play_next-clause-output g c = λ began was told.
    let p = err_from_is_err_and c.from_residual.result c.from_residual.ensures.1 in
    rw (p.1, p.2) (
    prints_err g.C.Simulation.rules (g.T.Renderer.rendering c.args.first.now) began was c.play_next.new.player.hosts Bool (Unit {0}) c.play_next.new.player.number c.play_next.new.out.page.now (g.W.Sink.written c.play_next.new.out.sink.now) c.in_err-play_next.field-0.0
    (c.in_err-play_next.ensures.output began was (c.loop.invariant.told began was told)))

pub loop-preserved : goal.loop-preserved
loop-preserved g c =
    record {
      events = λ bytes ahead.
          let before = c.loop.invariant.events bytes ahead in
          let one = rw c.if-branch.true at (c.in_ok-play_next.ensures.events before.0 before.1) in
          (one.0, one.1, λ r last left h. before.2 r last left (one.2 r last left h));
      told = λ began was told. c.in_ok-play_next.ensures.output began was (c.loop.invariant.told began was told);
      source_mark = c.in_ok-play_next.ensures.source_mark ∙ or-false _ ∙ c.loop.invariant.source_mark;
      sink_mark = c.in_ok-play_next.ensures.sink_mark ∙ or-false _ ∙ c.loop.invariant.sink_mark;
      same_script = (c.in_ok-play_next.ensures.same_script.0 ∙ c.loop.invariant.same_script.0, c.in_ok-play_next.ensures.same_script.1 ∙ c.loop.invariant.same_script.1);
      same_outlet = (c.in_ok-play_next.ensures.same_outlet.0 ∙ c.loop.invariant.same_outlet.0, c.in_ok-play_next.ensures.same_outlet.1 ∙ c.loop.invariant.same_outlet.1);
    }

pub returns-clause-events : goal.returns-clause-events
returns-clause-events g c = λ bytes ahead.
    let before = c.loop.invariant.events bytes ahead in
    before.2 (Ok tt) c.play_next.new.player.hosts (g.R.Source.left c.play_next.new.script.source.now) (rw c.if-branch.false at (c.in_ok-play_next.ensures.events before.0 before.1))

pub returns-clause-output : goal.returns-clause-output
returns-clause-output g c = λ began was told. c.in_ok-play_next.ensures.output began was (c.loop.invariant.told began was told)
