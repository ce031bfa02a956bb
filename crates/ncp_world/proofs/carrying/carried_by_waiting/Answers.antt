use Rattle.std.proofs.Common.{sym, ◌∙◌, arith}
use Rattle.ncp_model.specs.declared.limits.TheConstants.{MAX_WAITING}
use Rattle.ncp_host.specs.Host.{state_of}
use Rattle.ncp_world.proofs.Sums.{waits-next, waits-none}
use Rattle.ncp_world.proofs.carrying.carried_by_waiting.Goals as goal

pub returns-in_default-clause-sum : goal.returns-in_default-clause-sum
returns-in_default-clause-sum g c =
    waits-none c.args.link (state_of c.args.host.now c.args.peer) c.loop-place.place MAX_WAITING c.loop-place.sum c.loop-place.invariant.within (sym c.waiting.ensures ∙ c.in_default.is) c.loop-place.invariant.sum

pub loop-place-preserved : goal.loop-place-preserved
loop-place-preserved g c = record {
  sum =
      c.plus-sum.ensures
      ∙ waits-next c.args.link (state_of c.args.host.now c.args.peer) c.loop-place.place c.loop-place.sum c.carried_by_command.result c.in-Some.command (sym c.waiting.ensures ∙ c.in-Some.is) c.carried_by_command.ensures.sum c.loop-place.invariant.sum;
  small = grind arith;
  within = omega (arith, c.loop-place-test.true);
}
