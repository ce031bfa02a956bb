use Rattle.std.proofs.Common.{◌≤◌, ◌-◌, length, sym, ap, ◌∙◌, arith}
use Rattle.ncp_web.specs.declared.transit.TransitState.TheVariants.{Free}
use Rattle.ncp_web.specs.TransitStates.{transit_state_printed_of_many}
use Rattle.ncp_web.proofs.TransitStates.{last-found, last-passed}
use Rattle.ncp_web.proofs.transit.transit_state_of_many.Goals as goal

pub returns-in-Some : goal.returns-in-Some
returns-in-Some c =
    last-found (transit_state_printed_of_many c.args.sender c.args.peer c.args.link) c.args.notes.now c.loop-left.left Free c.loop-left-test.true c.loop-left.invariant.0 c.index-notes-left.result c.in-Some.transit_state (ap (transit_state_printed_of_many c.args.sender c.args.peer c.args.link) (sym c.index-notes-left.is) ∙ sym c.transit_state_printed_of_many.ensures ∙ c.in-Some.is) c.loop-left.invariant.1

pub loop-left-preserved : goal.loop-left-preserved
loop-left-preserved c =
    let within : c.loop-left.left - 1 ≤ length c.args.notes.now = omega (arith, c.loop-left.invariant.0) in
    (within, last-passed (transit_state_printed_of_many c.args.sender c.args.peer c.args.link) c.args.notes.now c.loop-left.left Free c.loop-left-test.true c.loop-left.invariant.0 c.index-notes-left.result (ap (transit_state_printed_of_many c.args.sender c.args.peer c.args.link) (sym c.index-notes-left.is) ∙ sym c.transit_state_printed_of_many.ensures ∙ c.in_default.is) c.loop-left.invariant.1)
