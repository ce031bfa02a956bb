use Rattle.std.proofs.Common.{◌∙◌, Bool, ap}
use Rattle.std.proofs.lemmas.Result.{err_from_is_err_and}
use Rattle.ncp_play_notes.proofs.OneInput.{last_note}
use Rattle.ncp_play_feed.specs.Steps.{is_output_note}
use Rattle.ncp_play_feed.proofs.Arrivals.{printed_as}
use Rattle.ncp_play_feed.proofs.Departures.{as_noted, next_breaks, link_fewer}
use Rattle.ncp_play_feed.proofs.sending.send_next.Goals as goal

pub returns-in_err-play_input-clause-events : goal.returns-in_err-play_input-clause-events
returns-in_err-play_input-clause-events g c =
    let p = err_from_is_err_and c.from_residual.result c.from_residual.ensures.1 in
    rw (p.1, p.2) (next_breaks c.args.alone.now c.play_input.new.alone c.in_err-play_input.field-0.0 c.in_err-play_input.ensures.events)

pub returns-in_err-play_input-clause-output : goal.returns-in_err-play_input-clause-output
returns-in_err-play_input-clause-output g c = λ was first told.
    let p = err_from_is_err_and c.from_residual.result c.from_residual.ensures.1 in
    rw (p.1, p.2) (
    printed_as (Unit {0}) Bool was first c.play_input.new.alone.notes c.in_err-play_input.field-0.0 c.play_input.new.heading c.play_input.new.out.page.now (g.W.Sink.written c.play_input.new.out.sink.now)
    (c.in_err-play_input.ensures.output was first told))

pub returns-clause-events : goal.returns-clause-events
returns-clause-events g c =
    let before = c.args.alone.now in
    let step = c.in_ok-play_input.ensures.events in
    let same = last_note c.transcript-notes.result.now before.notes step.0 c.index-notes-notes.result (c.transcript-notes.ensures.notes ∙ step.2) c.index-notes-notes.is in
    as_noted before c.play_input.new.alone step c.is_out.result (c.is_out.ensures ∙ ap is_output_note same)

pub returns-clause-output : goal.returns-clause-output
returns-clause-output g c = λ was first told. c.in_ok-play_input.ensures.output was first told

pub returns-clause-fewer : goal.returns-clause-fewer
returns-clause-fewer g c =
    let before = c.args.alone.now in
    let step = c.in_ok-play_input.ensures.events in
    let same = last_note c.transcript-notes.result.now before.notes step.0 c.index-notes-notes.result (c.transcript-notes.ensures.notes ∙ step.2) c.index-notes-notes.is in
    λ went. link_fewer before c.play_input.new.alone step c.is_out.result (c.is_out.ensures ∙ ap is_output_note same) went
