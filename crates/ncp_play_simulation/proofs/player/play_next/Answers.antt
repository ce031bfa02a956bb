use Rattle.std.proofs.Common.{Bool}
use Rattle.std.proofs.lemmas.Result.{err_from_is_err_and}
use Rattle.ncp_play_simulation.proofs.PlayedLines.{asks_err, asks_none, event_err, event_ok, prints_any, prints_err}
use Rattle.ncp_play_simulation.proofs.player.play_next.Goals as goal

pub returns-in_err-event-clause-events : goal.returns-in_err-event-clause-events
returns-in_err-event-clause-events g c = λ bytes ahead.
    let p = err_from_is_err_and c.from_residual.result c.from_residual.ensures.1 in
    rw (p.1, p.2) (asks_err g.C.Simulation.rules c.args.first.now c.args.script.now.lines.now.number bytes c.args.player.now.hosts c.next_event.new.script.lines.now (g.R.Source.left c.next_event.new.script.source.now) c.in_err-event.field-0.0 (c.in_err-event.ensures.output bytes ahead))

pub returns-in_default-clause-events : goal.returns-in_default-clause-events
returns-in_default-clause-events g c = λ bytes ahead.
    asks_none g.C.Simulation.rules c.args.first.now c.args.script.now.lines.now.number bytes c.args.player.now.hosts c.next_event.new.script.lines.now (g.R.Source.left c.next_event.new.script.source.now) (rw c.in_default.is at (c.in_ok-event.ensures.output bytes ahead))

pub returns-in_err-play_on-clause-events : goal.returns-in_err-play_on-clause-events
returns-in_err-play_on-clause-events g c = λ bytes ahead.
    let p = err_from_is_err_and c.from_residual-in_err-play_on.result c.from_residual-in_err-play_on.ensures.1 in
    rw (p.1, p.2) (
    event_err g.C.Simulation.rules c.args.first.now c.args.script.now.lines.now.number bytes c.args.player.now.hosts c.in-Some.event c.in-Some.ended c.next_event.new.script.lines.now (g.R.Source.left c.next_event.new.script.source.now) c.play_on.new.player.hosts c.in_err-play_on.field-0.0
    (rw c.in-Some.is at (c.in_ok-event.ensures.output bytes ahead)) c.in_err-play_on.ensures.event)

pub returns-clause-events : goal.returns-clause-events
returns-clause-events g c = λ bytes ahead.
    event_ok g.C.Simulation.rules c.args.first.now c.args.script.now.lines.now.number bytes c.args.player.now.hosts c.in-Some.event c.in-Some.ended c.next_event.new.script.lines.now (g.R.Source.left c.next_event.new.script.source.now) c.play_on.new.player.hosts
    (rw c.in-Some.is at (c.in_ok-event.ensures.output bytes ahead)) c.in_ok-play_on.ensures.event

pub returns-in_err-event-clause-output : goal.returns-in_err-event-clause-output
returns-in_err-event-clause-output g c = λ began was told.
    let player = c.args.player.now in
    prints_any g.C.Simulation.rules (g.T.Renderer.rendering c.args.first.now) began was player.hosts player.number c.args.out.now.page.now (g.W.Sink.written c.args.out.now.sink.now) c.from_residual.result told

pub returns-in_default-clause-output : goal.returns-in_default-clause-output
returns-in_default-clause-output g c = λ began was told. told

pub returns-in_err-play_on-clause-output : goal.returns-in_err-play_on-clause-output
returns-in_err-play_on-clause-output g c = λ began was told.
    let p = err_from_is_err_and c.from_residual-in_err-play_on.result c.from_residual-in_err-play_on.ensures.1 in
    rw (p.1, p.2) (
    prints_err g.C.Simulation.rules (g.T.Renderer.rendering c.args.first.now) began was c.play_on.new.player.hosts (Unit {0}) Bool c.play_on.new.player.number c.play_on.new.out.page.now (g.W.Sink.written c.play_on.new.out.sink.now) c.in_err-play_on.field-0.0
    (c.in_err-play_on.ensures.output began was told))

pub returns-clause-output : goal.returns-clause-output
returns-clause-output g c = λ began was told. c.in_ok-play_on.ensures.output began was told
