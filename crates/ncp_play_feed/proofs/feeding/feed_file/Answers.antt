use Rattle.std.proofs.Common.{drop, arith}
use Rattle.std.proofs.lemmas.Result.{err_from_is_err_and}
use Rattle.ncp_play_feed.proofs.Arrivals.{printed_as}
use Rattle.ncp_play_feed.proofs.Whole.{feed_ends, heard_part, feed_sent}
use Rattle.ncp_play_feed.proofs.feeding.feed_file.Goals as goal

pub returns-in-Err-clause-events : goal.returns-in-Err-clause-events
returns-in-Err-clause-events g c = λ bytes ahead.
    feed_ends bytes c.read_feed_header.new.input.window.now (g.R.Source.left c.read_feed_header.new.input.source.now) c.args.alone.now c.in-Err.fault (c.in-Err.ensures.output bytes ahead)

pub returns-in_err-hear_all-clause-events : goal.returns-in_err-hear_all-clause-events
returns-in_err-hear_all-clause-events g c = λ bytes ahead.
    let p = err_from_is_err_and c.from_residual.result c.from_residual.ensures.1 in
    let head = c.in_default.ensures.output bytes ahead in
    rw (p.1, p.2) (
    heard_part bytes head.0 c.args.alone.now (g.R.Source.left c.hear_all.new.input.source.now) c.hear_all.new.alone c.in_err-hear_all.field-0.0 (c.in_err-hear_all.ensures.events (drop 4 bytes) head.1))

pub returns-clause-events : goal.returns-clause-events
returns-clause-events g c = λ bytes ahead.
    let head = c.in_default.ensures.output bytes ahead in
    feed_sent bytes head.0 c.args.alone.now c.hear_all.new.alone (c.in_ok-hear_all.ensures.events (drop 4 bytes) head.1) (g.R.Source.left c.hear_all.new.input.source.now) c.send_all.new.alone c.send_all.result
    c.send_all.ensures.events

pub returns-clause-output : goal.returns-clause-output
returns-clause-output g c = λ was first told. c.send_all.ensures.output was first (c.in_ok-hear_all.ensures.output was first told)

pub returns-in-Err-clause-output : goal.returns-in-Err-clause-output
returns-in-Err-clause-output g c = λ was first told. told

pub returns-in_err-hear_all-clause-output : goal.returns-in_err-hear_all-clause-output
returns-in_err-hear_all-clause-output g c = λ was first told.
    let p = err_from_is_err_and c.from_residual.result c.from_residual.ensures.1 in
    rw (p.1, p.2) (
    printed_as (Unit {0}) (Unit {0}) was first c.hear_all.new.alone.notes c.in_err-hear_all.field-0.0 c.hear_all.new.heading c.hear_all.new.out.page.now (g.W.Sink.written c.hear_all.new.out.sink.now)
    (c.in_err-hear_all.ensures.output was first told))

pub returns-in-Err-clause-writes : goal.returns-in-Err-clause-writes
returns-in-Err-clause-writes g c = omega (arith, c.in-Err.ensures.lowers)

pub returns-in_err-hear_all-clause-writes : goal.returns-in_err-hear_all-clause-writes
returns-in_err-hear_all-clause-writes g c =
    let p = err_from_is_err_and c.from_residual.result c.from_residual.ensures.1 in
    rw (p.1, p.2) (omega (arith, c.in_default.ensures.lowers, c.in_err-hear_all.ensures.writes))

pub returns-clause-writes : goal.returns-clause-writes
returns-clause-writes g c = omega (arith, c.in_default.ensures.lowers, c.in_ok-hear_all.ensures.writes, c.send_all.ensures.writes)
