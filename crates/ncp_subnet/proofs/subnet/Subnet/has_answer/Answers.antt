use Rattle.std.proofs.Common.{◌≡◌, ◌∙◌, Bool, sym, ap}
use Rattle.std.specs.Option.{is_some}
use Rattle.std.specs.Box.{boxed_slice_items}
use Rattle.ncp_subnet.specs.Transit.{answer_kind}
use Rattle.ncp_subnet.specs.Ways.{OnLink, on_link}
use Rattle.ncp_subnet.specs.Subnet.{transit_at}
use Rattle.ncp_subnet.proofs.Rows.{Found, found-by, none-by, transit-found, transit-none}
use Rattle.ncp_subnet.proofs.subnet.Subnet.has_answer.Goals as goal

-- there is an answer to give
abbrev answers : OnLink → Bool
answers transit = is_some (answer_kind transit)

-- the way that was found, as it was
found : (c : goal.After-has_answer) → Found (boxed_slice_items c.self.inside.ways) c.args.from c.args.to c.args.link c.in-Some.place c.index.result.now
found c = found-by c.deref.result.now (boxed_slice_items c.self.inside.ways) c.args.from c.args.to c.args.link c.in-Some.place c.index.result.now c.way_between.result c.deref.ensures.value c.way_between.ensures c.in-Some.is c.index.ensures c.has_answer.ensures.inside

read : (c : goal.After-has_answer) → transit_at c.args.self.now c.args.from c.args.to c.args.link ≡ on_link c.index.result.now c.args.link
read c = transit-found (boxed_slice_items c.self.inside.ways) c.args.self.now c.args.from c.args.to c.args.link c.in-Some.place c.index.result.now c.self.view_is (found c)

pub returns-in-Some : goal.returns-in-Some
returns-in-Some c = c.has_answer.ensures.answer ∙ ap answers (sym (read c))

pub returns-in-None : goal.returns-in-None
returns-in-None c = sym (ap answers (transit-none (boxed_slice_items c.self.inside.ways) c.args.self.now c.args.from c.args.to c.args.link c.self.view_is
    (none-by c.deref.result.now (boxed_slice_items c.self.inside.ways) c.args.from c.args.to c.way_between.result c.deref.ensures.value c.way_between.ensures c.in-None.is)))
