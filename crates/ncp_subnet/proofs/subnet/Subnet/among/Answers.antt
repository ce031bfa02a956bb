use Rattle.std.proofs.Common.{◌≡◌, ◌∙◌, ap}
use Rattle.std.specs.Box.{boxed_slice_items}
use Rattle.std.specs.List.{flat_map}
use Rattle.std.proofs.lemmas.List.{take_all}
use Rattle.ncp_subnet.specs.Ways.{free_ways_from}
use Rattle.ncp_subnet.specs.Subnet.{Subnet, has_way, transit_at, new_subnet, subnet_in}
use Rattle.ncp_subnet.proofs.NewRows.{has_way-new, transit-new}
use Rattle.ncp_subnet.proofs.subnet.Subnet.among.Goals as goal

-- it is the new one
made : (c : goal.After-into_boxed_slice) → subnet_in (boxed_slice_items c.into_boxed_slice.result) ≡ new_subnet c.args.hosts.now
unfolding new_subnet
made c = ap subnet_in (c.into_boxed_slice.ensures.items ∙ c.loop-from.invariant ∙ ap (flat_map (λ from. free_ways_from from c.args.hosts.now)) (take_all c.loop-from.from-index c.args.hosts.now c.loop-from-test.false))

pub returns-clause-subnet : goal.returns-clause-subnet
returns-clause-subnet c = made c

pub returns-clause-hosts : goal.returns-clause-hosts
returns-clause-hosts c from to = ap (λ (subnet : Subnet). has_way subnet from to) (made c) ∙ has_way-new c.args.hosts.now from to

pub returns-clause-free : goal.returns-clause-free
returns-clause-free c from to link = ap (λ (subnet : Subnet). transit_at subnet from to link) (made c) ∙ transit-new c.args.hosts.now from to link
