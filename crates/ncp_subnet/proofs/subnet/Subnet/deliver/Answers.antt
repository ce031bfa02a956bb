use Rattle.std.proofs.Common.{◌≡◌, ◌∙◌, refl, sym, ap, ℕ, slice_set}
use Rattle.std.specs.Box.{boxed_slice_items}
use Rattle.ncp_subnet.specs.Transit.{delivered}
use Rattle.ncp_subnet.specs.Messages.{arriving}
use Rattle.ncp_subnet.specs.Ways.{OneWay, on_link}
use Rattle.ncp_subnet.specs.Subnet.{transit_at, with_transit, subnet_in}
use Rattle.ncp_subnet.proofs.Rows.{Found, found-by, none-by, transit-found, changed-found, transit-none, transit-changed, transit-kept, others-stay, unchanged, when_not_arriving, from-found, when_arriving}
use Rattle.ncp_subnet.proofs.subnet.Subnet.deliver.Goals as goal

-- the way that was found, as it was
found : (c : goal.After-self-1) → Found (boxed_slice_items c.self.inside.ways) c.args.from c.args.to c.args.link c.in_ok-place.place c.index_mut.result.now
found c = found-by c.deref.result.now (boxed_slice_items c.self.inside.ways) c.args.from c.args.to c.args.link c.in_ok-place.place c.index_mut.result.now c.way_between.result c.deref.ensures.value c.way_between.ensures c.in_ok-place.was c.index_mut.ensures.value c.deliver.ensures.inside

read : (c : goal.After-self-1) → transit_at c.args.self.now c.args.from c.args.to c.args.link ≡ on_link c.index_mut.result.now c.args.link
read c = transit-found (boxed_slice_items c.self.inside.ways) c.args.self.now c.args.from c.args.to c.args.link c.in_ok-place.place c.index_mut.result.now c.self.view_is (found c)

given : (c : goal.After-self-1) → c.deliver.result ≡ arriving c.args.from (on_link c.index_mut.result.now c.args.link)
given c = c.deliver.ensures.message ∙ ap (λ (host : ℕ). arriving host (on_link c.index_mut.result.now c.args.link)) (from-found (boxed_slice_items c.self.inside.ways) c.args.from c.args.to c.args.link c.in_ok-place.place c.index_mut.result.now (found c))

pub returns-clause-message : goal.returns-clause-message
returns-clause-message c = given c ∙ ap (arriving c.args.from) (sym (read c))

pub returns-clause-some : goal.returns-clause-some
returns-clause-some c = when_arriving c.deliver.result c.args.from (on_link c.index_mut.result.now c.args.link) (given c) (λ is.
    ap (λ (way : OneWay). subnet_in (slice_set (boxed_slice_items c.self.inside.ways) c.in_ok-place.place way)) c.deliver.ensures.way
    ∙ changed-found (boxed_slice_items c.self.inside.ways) c.args.self.now c.args.from c.args.to c.args.link c.in_ok-place.place c.index_mut.result.now (delivered (on_link c.index_mut.result.now c.args.link)) c.self.view_is (found c)
    ∙ ap (with_transit c.args.self.now c.args.from c.args.to c.args.link) is)

pub returns-in_err-place-clause-message : goal.returns-in_err-place-clause-message
returns-in_err-place-clause-message c = c.from_residual.ensures ∙ sym (ap (arriving c.args.from) (transit-none (boxed_slice_items c.self.inside.ways) c.args.self.now c.args.from c.args.to c.args.link c.self.view_is
    (none-by c.deref.result.now (boxed_slice_items c.self.inside.ways) c.args.from c.args.to c.way_between.result c.deref.ensures.value c.way_between.ensures c.in_err-place.was)))

pub returns-clause-none : goal.returns-clause-none
returns-clause-none c = when_not_arriving c.deliver.result c.args.from (on_link c.index_mut.result.now c.args.link) (given c) (λ is.
    unchanged (boxed_slice_items c.self.inside.ways) c.args.self.now c.args.link c.in_ok-place.place c.index_mut.result.now c.deliver.new.self (delivered (on_link c.index_mut.result.now c.args.link)) c.self.view_is c.index_mut.ensures.value c.deliver.ensures.way is)

pub returns-clause-transit : goal.returns-clause-transit
returns-clause-transit c = transit-changed (boxed_slice_items c.self.inside.ways) c.args.self.now c.args.from c.args.to c.args.link c.in_ok-place.place c.index_mut.result.now c.deliver.new.self delivered c.self.view_is (found c) c.deliver.ensures.way

pub returns-clause-others : goal.returns-clause-others
returns-clause-others c = others-stay (boxed_slice_items c.self.inside.ways) c.args.self.now c.args.from c.args.to c.args.link c.in_ok-place.place c.index_mut.result.now c.deliver.new.self (delivered (on_link c.index_mut.result.now c.args.link)) c.self.view_is (found c) c.deliver.ensures.way

pub returns-in_err-place-clause-transit : goal.returns-in_err-place-clause-transit
returns-in_err-place-clause-transit c = transit-kept (boxed_slice_items c.self.inside.ways) c.args.self.now c.args.from c.args.to c.args.link delivered c.self.view_is
    (none-by c.deref.result.now (boxed_slice_items c.self.inside.ways) c.args.from c.args.to c.way_between.result c.deref.ensures.value c.way_between.ensures c.in_err-place.was) refl
