use Rattle.std.proofs.Common.{◌∙◌, Bool, Ok, Err, arith}
use Rattle.std.proofs.Math.Bool.{or-false}
use Rattle.std.proofs.lemmas.Result.{err_from_is_err_and}
use Rattle.ncp_play_feed.proofs.Arrivals.{printed_as}
use Rattle.ncp_play_feed.proofs.Departures.{from_end, from_err, from_more}
use Rattle.ncp_play_feed.proofs.sending.send_all.Goals as goal

pub returns-in_err-send_next-clause-events : goal.returns-in_err-send_next-clause-events
returns-in_err-send_next-clause-events g c =
    let p = err_from_is_err_and c.from_residual.result c.from_residual.ensures.1 in
    let fault = c.in_err-send_next.field-0.0 in
    rw (p.1, p.2) (c.loop.invariant.events (Err fault) c.send_next.new.alone (from_err c.loop.alone c.send_next.new.alone fault c.in_err-send_next.ensures.events))

pub returns-in_err-send_next-clause-output : goal.returns-in_err-send_next-clause-output
returns-in_err-send_next-clause-output g c = λ was first told.
    let p = err_from_is_err_and c.from_residual.result c.from_residual.ensures.1 in
    rw (p.1, p.2) (
    printed_as Bool Unit was first c.send_next.new.alone.notes c.in_err-send_next.field-0.0 c.send_next.new.heading c.send_next.new.out.page.now (g.W.Sink.written c.send_next.new.out.sink.now)
    (c.in_err-send_next.ensures.output was first (c.loop.invariant.told was first told)))

pub loop-preserved : goal.loop-preserved
loop-preserved g c =
    record {
      events = λ r now h. c.loop.invariant.events r now (from_more c.loop.alone c.send_next.new.alone (rw c.if-branch.true at c.in_ok-send_next.ensures.events) r now h);
      told = λ was first told. c.in_ok-send_next.ensures.output was first (c.loop.invariant.told was first told);
      sink_mark = c.in_ok-send_next.ensures.sink_mark ∙ or-false _ ∙ c.loop.invariant.sink_mark;
      writes = let one = c.in_ok-send_next.ensures.writes in omega (arith, one, c.loop.invariant.writes);
      same_outlet = (c.in_ok-send_next.ensures.same_outlet.0 ∙ c.loop.invariant.same_outlet.0, c.in_ok-send_next.ensures.same_outlet.1 ∙ c.loop.invariant.same_outlet.1);
    }

pub returns-clause-events : goal.returns-clause-events
returns-clause-events g c = c.loop.invariant.events (Ok tt) c.send_next.new.alone (from_end c.loop.alone c.send_next.new.alone (rw c.if-branch.false at c.in_ok-send_next.ensures.events))

pub returns-clause-output : goal.returns-clause-output
returns-clause-output g c = λ was first told. c.in_ok-send_next.ensures.output was first (c.loop.invariant.told was first told)
