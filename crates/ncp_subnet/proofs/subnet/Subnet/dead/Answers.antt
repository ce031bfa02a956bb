use Rattle.std.proofs.Common.{◌≡◌, ◌∙◌, refl, sym, ap, slice_set}
use Rattle.std.specs.Box.{boxed_slice_items}
use Rattle.ncp_subnet.specs.declared.transit.Transit.TheVariants.{Dead}
use Rattle.ncp_subnet.specs.Transit.{is_accepted, dead}
use Rattle.ncp_subnet.specs.Ways.{OneWay, on_link}
use Rattle.ncp_subnet.specs.Subnet.{transit_at, with_transit, subnet_in}
use Rattle.ncp_subnet.proofs.Rows.{Found, found-by, none-by, transit-found, changed-found, transit-none, transit-changed, transit-kept, others-stay, unchanged, when_not_accepted, when_accepted}
use Rattle.ncp_subnet.proofs.subnet.Subnet.dead.Goals as goal

-- the way that was found, as it was
found : (c : goal.After-self-1) → Found (boxed_slice_items c.self.inside.ways) c.args.from c.args.to c.args.link c.in-Some.place c.index_mut.result.now
found c = found-by c.deref.result.now (boxed_slice_items c.self.inside.ways) c.args.from c.args.to c.args.link c.in-Some.place c.index_mut.result.now c.way_between.result c.deref.ensures.value c.way_between.ensures c.in-Some.is c.index_mut.ensures.value c.dead.ensures.inside

read : (c : goal.After-self-1) → transit_at c.args.self.now c.args.from c.args.to c.args.link ≡ on_link c.index_mut.result.now c.args.link
read c = transit-found (boxed_slice_items c.self.inside.ways) c.args.self.now c.args.from c.args.to c.args.link c.in-Some.place c.index_mut.result.now c.self.view_is (found c)

pub returns-in-Some-clause-output : goal.returns-in-Some-clause-output
returns-in-Some-clause-output c = c.dead.ensures.output ∙ ap is_accepted (sym (read c))

pub returns-in-Some-clause-dead : goal.returns-in-Some-clause-dead
returns-in-Some-clause-dead c = when_accepted c.dead.result Dead (on_link c.index_mut.result.now c.args.link) c.dead.ensures.output (λ is.
    ap (λ (way : OneWay). subnet_in (slice_set (boxed_slice_items c.self.inside.ways) c.in-Some.place way)) c.dead.ensures.way
    ∙ changed-found (boxed_slice_items c.self.inside.ways) c.args.self.now c.args.from c.args.to c.args.link c.in-Some.place c.index_mut.result.now (dead (on_link c.index_mut.result.now c.args.link)) c.self.view_is (found c)
    ∙ ap (with_transit c.args.self.now c.args.from c.args.to c.args.link) is)

pub returns-in-None-clause-output : goal.returns-in-None-clause-output
returns-in-None-clause-output c = sym (ap is_accepted (transit-none (boxed_slice_items c.self.inside.ways) c.args.self.now c.args.from c.args.to c.args.link c.self.view_is
    (none-by c.deref.result.now (boxed_slice_items c.self.inside.ways) c.args.from c.args.to c.way_between.result c.deref.ensures.value c.way_between.ensures c.in-None.is)))

pub returns-in-Some-clause-none : goal.returns-in-Some-clause-none
returns-in-Some-clause-none c = when_not_accepted c.dead.result Dead (on_link c.index_mut.result.now c.args.link) c.dead.ensures.output (λ is.
    unchanged (boxed_slice_items c.self.inside.ways) c.args.self.now c.args.link c.in-Some.place c.index_mut.result.now c.dead.new.self (dead (on_link c.index_mut.result.now c.args.link)) c.self.view_is c.index_mut.ensures.value c.dead.ensures.way is)

pub returns-in-Some-clause-transit : goal.returns-in-Some-clause-transit
returns-in-Some-clause-transit c = transit-changed (boxed_slice_items c.self.inside.ways) c.args.self.now c.args.from c.args.to c.args.link c.in-Some.place c.index_mut.result.now c.dead.new.self dead c.self.view_is (found c) c.dead.ensures.way

pub returns-in-Some-clause-others : goal.returns-in-Some-clause-others
returns-in-Some-clause-others c = others-stay (boxed_slice_items c.self.inside.ways) c.args.self.now c.args.from c.args.to c.args.link c.in-Some.place c.index_mut.result.now c.dead.new.self (dead (on_link c.index_mut.result.now c.args.link)) c.self.view_is (found c) c.dead.ensures.way

pub returns-in-None-clause-transit : goal.returns-in-None-clause-transit
returns-in-None-clause-transit c = transit-kept (boxed_slice_items c.self.inside.ways) c.args.self.now c.args.from c.args.to c.args.link dead c.self.view_is
    (none-by c.deref.result.now (boxed_slice_items c.self.inside.ways) c.args.from c.args.to c.way_between.result c.deref.ensures.value c.way_between.ensures c.in-None.is) refl
