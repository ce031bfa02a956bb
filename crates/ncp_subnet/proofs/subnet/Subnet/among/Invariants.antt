use Rattle.std.proofs.Common.{◌≡◌, take}
use Rattle.std.specs.List.{flat_map}
use Rattle.ncp_subnet.specs.Ways.{free_ways_from}
use Rattle.ncp_subnet.proofs.subnet.Subnet.among.Given as goal

abbrev pub invariant-loop-from : goal.invariant-loop-from
invariant-loop-from l = l.ways.items ≡ flat_map (λ from. free_ways_from from l.hosts) (take l.from-index l.hosts)
