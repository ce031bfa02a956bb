use Rattle.std.proofs.Common.{◌≡◌, ◌++◌, take}
use Rattle.ncp_subnet.specs.Ways.{free_ways_from}
use Rattle.ncp_subnet.proofs.subnet.push_ways_from.Given as goal

abbrev pub invariant-loop-to : goal.invariant-loop-to
invariant-loop-to l = l.ways.items ≡ l.fn.ways.items ++ free_ways_from l.from (take l.to-index l.hosts)
