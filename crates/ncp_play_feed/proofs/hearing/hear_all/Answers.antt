use Rattle.std.proofs.Common.{◌∙◌, Bool, Ok, Err, arith}
use Rattle.std.proofs.Math.Bool.{or-false}
use Rattle.std.proofs.lemmas.Result.{err_from_is_err_and}
use Rattle.ncp_play_feed.proofs.Arrivals.{printed_as, from_end, from_more}
use Rattle.ncp_play_feed.proofs.hearing.hear_all.Goals as goal

pub returns-in_err-hear_on-clause-events : goal.returns-in_err-hear_on-clause-events
returns-in_err-hear_on-clause-events g c = λ bytes ahead.
    let p = err_from_is_err_and c.from_residual.result c.from_residual.ensures.1 in
    let fault = c.in_err-hear_on.field-0.0 in let left = g.R.Source.left c.hear_on.new.input.source.now in let now = c.hear_on.new.alone in
    let before = c.loop-messages.invariant.events bytes ahead in
    rw (p.1, p.2) (before.2 (Err fault) now left (c.in_err-hear_on.ensures.events before.0 before.1))

pub returns-in_err-hear_on-clause-output : goal.returns-in_err-hear_on-clause-output
returns-in_err-hear_on-clause-output g c = λ was first told.
    let p = err_from_is_err_and c.from_residual.result c.from_residual.ensures.1 in
    rw (p.1, p.2) (
    printed_as Bool Unit was first c.hear_on.new.alone.notes c.in_err-hear_on.field-0.0 c.hear_on.new.heading c.hear_on.new.out.page.now (g.W.Sink.written c.hear_on.new.out.sink.now)
    (c.in_err-hear_on.ensures.output was first (c.loop-messages.invariant.told was first told)))

pub loop-messages-preserved : goal.loop-messages-preserved
loop-messages-preserved g c =
    record {
      events = λ bytes ahead.
          let before = c.loop-messages.invariant.events bytes ahead in
          let one = rw c.if-branch.true at (c.in_ok-hear_on.ensures.events before.0 before.1) in
          (one.1, one.3, λ r now left h. before.2 r now left (from_more before.0 one.1 one.0 c.loop-messages.alone c.hear_on.new.alone one.2 one.4 left r now h));
      told = λ was first told. c.in_ok-hear_on.ensures.output was first (c.loop-messages.invariant.told was first told);
      source_mark = c.in_ok-hear_on.ensures.source_mark ∙ or-false _ ∙ c.loop-messages.invariant.source_mark;
      sink_mark = c.in_ok-hear_on.ensures.sink_mark ∙ or-false _ ∙ c.loop-messages.invariant.sink_mark;
      same_inlet = (c.in_ok-hear_on.ensures.same_inlet.0 ∙ c.loop-messages.invariant.same_inlet.0, c.in_ok-hear_on.ensures.same_inlet.1 ∙ c.loop-messages.invariant.same_inlet.1);
      same_outlet = (c.in_ok-hear_on.ensures.same_outlet.0 ∙ c.loop-messages.invariant.same_outlet.0, c.in_ok-hear_on.ensures.same_outlet.1 ∙ c.loop-messages.invariant.same_outlet.1);
      reads = let taken = c.in_ok-hear_on.ensures.taken c.if-branch.true in omega (arith, taken, c.loop-messages.invariant.reads);
      writes = let one = rw c.if-branch.true at c.in_ok-hear_on.ensures.writes in omega (arith, one, c.loop-messages.invariant.writes);
    }

pub returns-clause-events : goal.returns-clause-events
returns-clause-events g c = λ bytes ahead.
    let left = g.R.Source.left c.hear_on.new.input.source.now in let now = c.hear_on.new.alone in
    let before = c.loop-messages.invariant.events bytes ahead in
    before.2 (Ok tt) now left (from_end before.0 c.hear_on.new.input.window.now left c.loop-messages.alone now (rw c.if-branch.false at (c.in_ok-hear_on.ensures.events before.0 before.1)))

pub returns-clause-output : goal.returns-clause-output
returns-clause-output g c = λ was first told. c.in_ok-hear_on.ensures.output was first (c.loop-messages.invariant.told was first told)

pub returns-in_err-hear_on-clause-writes : goal.returns-in_err-hear_on-clause-writes
returns-in_err-hear_on-clause-writes g c =
    let p = err_from_is_err_and c.from_residual.result c.from_residual.ensures.1 in
    rw (p.1, p.2) (omega (arith, c.in_err-hear_on.ensures.writes, c.loop-messages.invariant.writes))

pub returns-clause-writes : goal.returns-clause-writes
returns-clause-writes g c = let one = rw c.if-branch.false at c.in_ok-hear_on.ensures.writes in omega (arith, one, c.loop-messages.invariant.writes)
