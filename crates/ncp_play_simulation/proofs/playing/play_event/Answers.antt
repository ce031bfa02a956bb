use Rattle.std.proofs.Common.{◌≡◌, ◌∙◌, ℕ, Bool, arith}
use Rattle.std.proofs.Math.Bool.{or-false}
use Rattle.std.proofs.lemmas.Result.{err_from_is_err_and}
use Rattle.ncp_play_simulation.proofs.OneEvent.{part_err, part_more, part_last, one_longer}
use Rattle.ncp_play_simulation.proofs.PlayedLines.{prints_err}
use Rattle.ncp_play_simulation.proofs.playing.play_event.Goals as goal

pub loop-left-preserved : goal.loop-left-preserved
loop-left-preserved g c =
    let rules = g.C.Simulation.rules in let mid = c.loop-left.player.hosts in let now = c.play_part.new.player.hosts in
    let one = g.met.C.Simulation.noted_one c.args.event.now c.loop-left.left c.in_ok-play_part.field-0 mid now c.in_ok-play_part.ensures.part in
    let longer = one_longer (rules.notes mid) (rules.notes now) one.0 one.1 in
    let few = c.loop-left.invariant.few in
    let before = c.loop-left.invariant.writes in
    let behind = c.in_ok-play_part.ensures.writes in
    record {
      begun = part_more rules c.args.event.now c.loop-left.left c.in_ok-play_part.field-0 c.args.player.now.hosts mid now c.if-branch.true c.loop-left.invariant.begun c.in_ok-play_part.ensures.part;
      told = λ began was told. c.in_ok-play_part.ensures.output began was (c.loop-left.invariant.told began was told);
      few = omega (arith, few, longer);
      writes = omega (arith, before, behind);
      mark = c.in_ok-play_part.ensures.mark ∙ or-false _ ∙ c.loop-left.invariant.mark;
      same_outlet = (c.in_ok-play_part.ensures.same_outlet.0 ∙ c.loop-left.invariant.same_outlet.0, c.in_ok-play_part.ensures.same_outlet.1 ∙ c.loop-left.invariant.same_outlet.1);
    }

pub returns-in_err-play_part-clause-event : goal.returns-in_err-play_part-clause-event
returns-in_err-play_part-clause-event g c =
    let p = err_from_is_err_and c.from_residual.result c.from_residual.ensures.1 in
    rw (p.1, p.2) (part_err g.C.Simulation.rules c.args.event.now c.loop-left.left c.args.player.now.hosts c.loop-left.player.hosts c.play_part.new.player.hosts c.in_err-play_part.field-0.0 c.loop-left.invariant.begun c.in_err-play_part.ensures.part)

pub returns-in_err-play_part-clause-output : goal.returns-in_err-play_part-clause-output
returns-in_err-play_part-clause-output g c = λ began was told.
    let p = err_from_is_err_and c.from_residual.result c.from_residual.ensures.1 in
    rw (p.1, p.2) (
    prints_err g.C.Simulation.rules (g.T.Renderer.rendering c.args.first.now) began was c.play_part.new.player.hosts Bool (Unit {0}) c.play_part.new.player.number c.play_part.new.out.page.now (g.W.Sink.written c.play_part.new.out.sink.now) c.in_err-play_part.field-0.0
    (c.in_err-play_part.ensures.output began was (c.loop-left.invariant.told began was told)))

pub returns-clause-event : goal.returns-clause-event
returns-clause-event g c = part_last g.C.Simulation.rules c.args.event.now c.loop-left.left c.in_ok-play_part.field-0 c.args.player.now.hosts c.loop-left.player.hosts c.play_part.new.player.hosts c.if-branch.false c.loop-left.invariant.begun c.in_ok-play_part.ensures.part

pub returns-clause-output : goal.returns-clause-output
returns-clause-output g c = λ began was told. c.in_ok-play_part.ensures.output began was (c.loop-left.invariant.told began was told)
