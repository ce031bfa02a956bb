use Rattle.std.proofs.Common.{Bool, refl}
use Rattle.std.proofs.lemmas.Result.{err_from_is_err_and}
use Rattle.ncp_play_feed.proofs.Arrivals.{printed_as, next_ends, next_breaks}
use Rattle.ncp_play_feed.proofs.hearing.hear_next.Goals as goal

pub returns-in_err-play_input-in-Ok-true-clause-events : goal.returns-in_err-play_input-in-Ok-true-clause-events
returns-in_err-play_input-in-Ok-true-clause-events g c = λ bytes ahead.
    let p = err_from_is_err_and c.from_residual.result c.from_residual.ensures.1 in
    let read = rw c.in-Ok-true.field-0-test at (c.in-Ok-true.ensures.output bytes ahead) in
    rw (p.1, p.2) (
    next_breaks bytes read.0 c.read_record.new.input.window.now c.read_record.new.message (g.R.Source.left c.read_record.new.input.source.now) c.args.alone.now c.play_input.new.alone c.in_err-play_input-in-Ok-true.field-0.0 read.1
    c.in_err-play_input-in-Ok-true.ensures.events)

pub returns-in_ok-play_input-in-Ok-true-clause-events : goal.returns-in_ok-play_input-in-Ok-true-clause-events
returns-in_ok-play_input-in-Ok-true-clause-events g c = λ bytes ahead.
    let read = rw c.in-Ok-true.field-0-test at (c.in-Ok-true.ensures.output bytes ahead) in
    (c.read_record.new.message, read.0, read.1, read.2, c.in_ok-play_input-in-Ok-true.ensures.events)

pub returns-in-Ok-false-clause-events : goal.returns-in-Ok-false-clause-events
returns-in-Ok-false-clause-events g c = λ bytes ahead. (rw c.in-Ok-false.field-0-test at (c.in-Ok-false.ensures.output bytes ahead), refl)

pub returns-in-Err-clause-events : goal.returns-in-Err-clause-events
returns-in-Err-clause-events g c = λ bytes ahead.
    next_ends bytes c.read_record.new.input.window.now c.read_record.new.message (g.R.Source.left c.read_record.new.input.source.now) c.args.alone.now c.args.alone.now c.in-Err.fault (c.in-Err.ensures.output bytes ahead) refl

pub returns-in_err-play_input-in-Ok-true-clause-output : goal.returns-in_err-play_input-in-Ok-true-clause-output
returns-in_err-play_input-in-Ok-true-clause-output g c = λ was first told.
    let p = err_from_is_err_and c.from_residual.result c.from_residual.ensures.1 in
    rw (p.1, p.2) (
    printed_as (Unit {0}) Bool was first c.play_input.new.alone.notes c.in_err-play_input-in-Ok-true.field-0.0 c.play_input.new.heading c.play_input.new.out.page.now (g.W.Sink.written c.play_input.new.out.sink.now)
    (c.in_err-play_input-in-Ok-true.ensures.output was first told))

pub returns-in_ok-play_input-in-Ok-true-clause-output : goal.returns-in_ok-play_input-in-Ok-true-clause-output
returns-in_ok-play_input-in-Ok-true-clause-output g c = λ was first told. c.in_ok-play_input-in-Ok-true.ensures.output was first told

pub returns-in-Ok-false-clause-output : goal.returns-in-Ok-false-clause-output
returns-in-Ok-false-clause-output g c = λ was first told. told

pub returns-in-Err-clause-output : goal.returns-in-Err-clause-output
returns-in-Err-clause-output g c = λ was first told. told
