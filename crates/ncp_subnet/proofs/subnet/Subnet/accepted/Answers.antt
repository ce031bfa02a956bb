use Rattle.std.proofs.Common.{◌≡◌, ◌∙◌, sym, ap}
use Rattle.std.specs.Box.{boxed_slice_items}
use Rattle.ncp_subnet.specs.Transit.{is_accepted}
use Rattle.ncp_subnet.specs.Ways.{on_link}
use Rattle.ncp_subnet.specs.Subnet.{transit_at}
use Rattle.ncp_subnet.proofs.Rows.{Found, found-by, none-by, transit-found, transit-none}
use Rattle.ncp_subnet.proofs.subnet.Subnet.accepted.Goals as goal

-- the way that was found, as it was
found : (c : goal.After-is_accepted) → Found (boxed_slice_items c.self.inside.ways) c.args.from c.args.to c.args.link c.in-Some.place c.index.result.now
found c = found-by c.deref.result.now (boxed_slice_items c.self.inside.ways) c.args.from c.args.to c.args.link c.in-Some.place c.index.result.now c.way_between.result c.deref.ensures.value c.way_between.ensures c.in-Some.is c.index.ensures c.is_accepted.ensures.inside

read : (c : goal.After-is_accepted) → transit_at c.args.self.now c.args.from c.args.to c.args.link ≡ on_link c.index.result.now c.args.link
read c = transit-found (boxed_slice_items c.self.inside.ways) c.args.self.now c.args.from c.args.to c.args.link c.in-Some.place c.index.result.now c.self.view_is (found c)

pub returns-in-Some : goal.returns-in-Some
returns-in-Some c = c.is_accepted.ensures.accepted ∙ ap is_accepted (sym (read c))

pub returns-in-None : goal.returns-in-None
returns-in-None c = sym (ap is_accepted (transit-none (boxed_slice_items c.self.inside.ways) c.args.self.now c.args.from c.args.to c.args.link c.self.view_is
    (none-by c.deref.result.now (boxed_slice_items c.self.inside.ways) c.args.from c.args.to c.way_between.result c.deref.ensures.value c.way_between.ensures c.in-None.is)))
