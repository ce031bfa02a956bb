use Rattle.std.proofs.Common.{◌≡◌, ◌≤◌, take}
use Rattle.ncp_model.specs.declared.limits.TheConstants.{MAX_WAITING}
use Rattle.ncp_host.specs.Host.{state_of}
use Rattle.ncp_world.specs.Reckoning.{carried_on, OfAtMost, waiting_of}
use Rattle.ncp_world.proofs.carrying.carried_by_waiting.Given as goal

-- the sum is what those before this place carry
abbrev pub invariant-loop-place : goal.invariant-loop-place
invariant-loop-place g l = record {
  sum : l.sum ≡ carried_on l.fn.link (take l.place (waiting_of (state_of l.fn.host l.fn.peer)));
  small : OfAtMost l.place l.sum;
  within : l.place ≤ MAX_WAITING;
}
