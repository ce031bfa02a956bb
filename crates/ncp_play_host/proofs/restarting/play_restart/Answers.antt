use Rattle.std.proofs.Common.{◌<◌, ◌∙◌, Ok, Err, arith}
use Rattle.std.proofs.Math.Bool.{or-false}
use Rattle.std.proofs.lemmas.Result.{err_from_is_err_and}
use Rattle.ncp_slot.specs.Slots.{data_links}
use Rattle.ncp_play_host.proofs.Incompletes.{plays_on, plays_not, plays_on_from, plays_not_from, plays_end}
use Rattle.ncp_play_host.proofs.restarting.play_restart.Goals as goal

pub returns-in_err-play_incomplete-clause-events : goal.returns-in_err-play_incomplete-clause-events
returns-in_err-play_incomplete-clause-events g c =
    let p = err_from_is_err_and c.from_residual.result c.from_residual.ensures.1 in
    rw (p.1, p.2) (plays_not c.args.peer 0 data_links c.args.alone.now c.play_incomplete.new.alone c.in_err-play_incomplete.field-0.0 c.in_err-play_incomplete.ensures.events)

pub loop-link-init : goal.loop-link-init
loop-link-init g c =
    let n : c.args.peer < 256 = omega arith in
    record {
      events = λ r now does. plays_on c.args.peer 0 data_links c.args.alone.now c.play_incomplete.new.alone n (omega arith) c.in_ok-play_incomplete.ensures.events r now does;
      told = λ was first tells. c.in_ok-play_incomplete.ensures.output was first tells;
      mark = c.in_ok-play_incomplete.ensures.mark ∙ or-false _;
      same_outlet = c.in_ok-play_incomplete.ensures.same_outlet;
    }

pub returns-in_err-play_incomplete-2-clause-events : goal.returns-in_err-play_incomplete-2-clause-events
returns-in_err-play_incomplete-2-clause-events g c =
    let p = err_from_is_err_and c.from_residual-in_err-play_incomplete-2.result c.from_residual-in_err-play_incomplete-2.ensures.1 in
    let fault = c.in_err-play_incomplete-2.field-0.0 in
    let now = c.play_incomplete-in-loop-link.new.alone in
    rw (p.1, p.2) (c.loop-link.invariant.events (Err fault) now (plays_not_from c.args.peer c.loop-link.link c.loop-link.alone now fault (omega arith) c.in_err-play_incomplete-2.ensures.events))

pub returns-in_err-play_incomplete-2-clause-output : goal.returns-in_err-play_incomplete-2-clause-output
returns-in_err-play_incomplete-2-clause-output g c = λ was first tells.
    let p = err_from_is_err_and c.from_residual-in_err-play_incomplete-2.result c.from_residual-in_err-play_incomplete-2.ensures.1 in
    rw (p.1, p.2) (c.in_err-play_incomplete-2.ensures.output was first (c.loop-link.invariant.told was first tells))

pub loop-link-preserved : goal.loop-link-preserved
loop-link-preserved g c =
    let n : c.args.peer < 256 = omega arith in
    record {
      events = λ r now does.
          c.loop-link.invariant.events r now (plays_on_from c.args.peer c.loop-link.link c.loop-link.alone c.play_incomplete-in-loop-link.new.alone n (omega arith) c.in_ok-play_incomplete-2.ensures.events r now does);
      told = λ was first tells. c.in_ok-play_incomplete-2.ensures.output was first (c.loop-link.invariant.told was first tells);
      mark = c.in_ok-play_incomplete-2.ensures.mark ∙ or-false _ ∙ c.loop-link.invariant.mark;
      same_outlet = (c.in_ok-play_incomplete-2.ensures.same_outlet.0 ∙ c.loop-link.invariant.same_outlet.0, c.in_ok-play_incomplete-2.ensures.same_outlet.1 ∙ c.loop-link.invariant.same_outlet.1);
    }

pub returns-clause-events : goal.returns-clause-events
returns-clause-events g c = c.loop-link.invariant.events (Ok tt) c.loop-link.alone (plays_end c.args.peer c.loop-link.link c.loop-link.alone (omega arith))
