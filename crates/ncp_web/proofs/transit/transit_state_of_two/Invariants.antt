use Rattle.std.proofs.Common.{◌≡◌, ◌≤◌, length, take}
use Rattle.ncp_web.specs.declared.transit.TransitState.TheVariants.{Free}
use Rattle.ncp_web.specs.TransitStates.{transit_state_printed, last_printed}
use Rattle.ncp_web.proofs.transit.transit_state_of_two.Given as goal

abbrev pub invariant-loop-left : goal.invariant-loop-left
invariant-loop-left l = (l.left ≤ length l.notes) × (last_printed (transit_state_printed l.sender l.link) (take l.left l.notes) Free ≡ last_printed (transit_state_printed l.sender l.link) l.notes Free)

abbrev pub decreases-loop-left : goal.decreases-loop-left
decreases-loop-left l = l.left
