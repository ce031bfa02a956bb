use Rattle.std.proofs.Common.{◌≡◌, drop}
use Rattle.ncp_host.specs.Host.{are_distinct}
use Rattle.ncp_world.proofs.network.are_distinct.Given as goal

abbrev pub invariant-loop-place : goal.invariant-loop-place
invariant-loop-place l = are_distinct l.numbers ≡ are_distinct (drop l.place l.numbers)
