use Rattle.std.proofs.Common.{◌≡◌, ◌∙◌, refl, sym, ap, ℕ, slice_set}
use Rattle.std.specs.Box.{boxed_slice_items}
use Rattle.ncp_subnet.specs.Transit.{transit_answered}
use Rattle.ncp_subnet.specs.Messages.{answer_about}
use Rattle.ncp_subnet.specs.Ways.{OneWay, on_link}
use Rattle.ncp_subnet.specs.Subnet.{transit_at, with_transit, subnet_in}
use Rattle.ncp_subnet.proofs.Rows.{Found, found-by, none-by, transit-found, changed-found, transit-none, transit-changed, transit-kept, others-stay, unchanged, when_not_answered, to-found, when_answered}
use Rattle.ncp_subnet.proofs.subnet.Subnet.answer.Goals as goal

-- the way that was found, as it was
found : (c : goal.After-self-1) → Found (boxed_slice_items c.self.inside.ways) c.args.from c.args.to c.args.link c.in_ok-place.place c.index_mut.result.now
found c = found-by c.deref.result.now (boxed_slice_items c.self.inside.ways) c.args.from c.args.to c.args.link c.in_ok-place.place c.index_mut.result.now c.way_between.result c.deref.ensures.value c.way_between.ensures c.in_ok-place.was c.index_mut.ensures.value c.answer.ensures.inside

read : (c : goal.After-self-1) → transit_at c.args.self.now c.args.from c.args.to c.args.link ≡ on_link c.index_mut.result.now c.args.link
read c = transit-found (boxed_slice_items c.self.inside.ways) c.args.self.now c.args.from c.args.to c.args.link c.in_ok-place.place c.index_mut.result.now c.self.view_is (found c)

given : (c : goal.After-self-1) → c.answer.result ≡ answer_about c.args.to c.args.link (on_link c.index_mut.result.now c.args.link)
given c = c.answer.ensures.answer ∙ ap (λ (host : ℕ). answer_about host c.args.link (on_link c.index_mut.result.now c.args.link)) (to-found (boxed_slice_items c.self.inside.ways) c.args.from c.args.to c.args.link c.in_ok-place.place c.index_mut.result.now (found c))

pub returns-clause-answer : goal.returns-clause-answer
returns-clause-answer c = given c ∙ ap (answer_about c.args.to c.args.link) (sym (read c))

pub returns-clause-some : goal.returns-clause-some
returns-clause-some c = when_answered c.answer.result c.args.to c.args.link (on_link c.index_mut.result.now c.args.link) (given c) (λ is.
    ap (λ (way : OneWay). subnet_in (slice_set (boxed_slice_items c.self.inside.ways) c.in_ok-place.place way)) c.answer.ensures.way
    ∙ changed-found (boxed_slice_items c.self.inside.ways) c.args.self.now c.args.from c.args.to c.args.link c.in_ok-place.place c.index_mut.result.now (transit_answered (on_link c.index_mut.result.now c.args.link)) c.self.view_is (found c)
    ∙ ap (with_transit c.args.self.now c.args.from c.args.to c.args.link) is)

pub returns-in_err-place-clause-answer : goal.returns-in_err-place-clause-answer
returns-in_err-place-clause-answer c = c.from_residual.ensures ∙ sym (ap (answer_about c.args.to c.args.link) (transit-none (boxed_slice_items c.self.inside.ways) c.args.self.now c.args.from c.args.to c.args.link c.self.view_is
    (none-by c.deref.result.now (boxed_slice_items c.self.inside.ways) c.args.from c.args.to c.way_between.result c.deref.ensures.value c.way_between.ensures c.in_err-place.was)))

pub returns-clause-none : goal.returns-clause-none
returns-clause-none c = when_not_answered c.answer.result c.args.to c.args.link (on_link c.index_mut.result.now c.args.link) (given c) (λ is.
    unchanged (boxed_slice_items c.self.inside.ways) c.args.self.now c.args.link c.in_ok-place.place c.index_mut.result.now c.answer.new.self (transit_answered (on_link c.index_mut.result.now c.args.link)) c.self.view_is c.index_mut.ensures.value c.answer.ensures.way is)

pub returns-clause-transit : goal.returns-clause-transit
returns-clause-transit c = transit-changed (boxed_slice_items c.self.inside.ways) c.args.self.now c.args.from c.args.to c.args.link c.in_ok-place.place c.index_mut.result.now c.answer.new.self transit_answered c.self.view_is (found c) c.answer.ensures.way

pub returns-clause-others : goal.returns-clause-others
returns-clause-others c = others-stay (boxed_slice_items c.self.inside.ways) c.args.self.now c.args.from c.args.to c.args.link c.in_ok-place.place c.index_mut.result.now c.answer.new.self (transit_answered (on_link c.index_mut.result.now c.args.link)) c.self.view_is (found c) c.answer.ensures.way

pub returns-in_err-place-clause-transit : goal.returns-in_err-place-clause-transit
returns-in_err-place-clause-transit c = transit-kept (boxed_slice_items c.self.inside.ways) c.args.self.now c.args.from c.args.to c.args.link transit_answered c.self.view_is
    (none-by c.deref.result.now (boxed_slice_items c.self.inside.ways) c.args.from c.args.to c.way_between.result c.deref.ensures.value c.way_between.ensures c.in_err-place.was) refl
