use Rattle.std.proofs.Common.{◌≡◌, ◌≢◌, ◌∙◌, true, false, slice_set, inl, inr, refl, sym, ap}
use Rattle.std.specs.Box.{boxed_slice_items}
use Rattle.ncp_leader.specs.declared.leader.Leader.{Leader}
use Rattle.ncp_subnet.specs.declared.transit.Transit.TheVariants.{Free, Accepted}
use Rattle.ncp_subnet.specs.Transit.{is_free}
use Rattle.ncp_subnet.specs.Messages.{host_in, link_in}
use Rattle.ncp_subnet.specs.Ways.{OneWay, on_link}
use Rattle.ncp_subnet.specs.Subnet.{has_way, transit_at, with_transit, subnet_in}
use Rattle.ncp_subnet.proofs.Rows.{Found, found-by, none-by, transit-found, changed-found, has_way-none, has_way-found, not_free, free}
use Rattle.ncp_subnet.proofs.subnet.Subnet.accept_part.Goals as goal

-- No way leads there.

no_way : (c : goal.In_default) → has_way c.args.self.now c.args.from (host_in c.args.message) ≡ false
no_way c = ap (λ (leader : Leader). has_way c.args.self.now c.args.from leader.host) (sym c.in_ok-leader.ensures.leader)
    ∙ has_way-none (boxed_slice_items c.self.inside.ways) c.args.self.now c.args.from c.in_ok-leader.leader.host c.self.view_is (none-by c.deref.result.now (boxed_slice_items c.self.inside.ways) c.args.from c.in_ok-leader.leader.host c.way_between.result c.deref.ensures.value c.way_between.ensures c.in_default.is)

pub returns-in_default-clause-variant : goal.returns-in_default-clause-variant
returns-in_default-clause-variant c = (λ e. absurd cc, λ none. absurd (none.1.0 (no_way c)))

pub returns-in_default-clause-first : goal.returns-in_default-clause-first
returns-in_default-clause-first c = inr (λ not. not c.in_ok-leader.ensures.regular, inl (refl, no_way c))

-- A way leads there, and the link is not free.

found_taken : (c : goal.After-self-1) → Found (boxed_slice_items c.self.inside.ways) c.args.from c.in_ok-leader.leader.host c.in_ok-leader.leader.link c.in-Some.place c.index_mut-way.result.now
found_taken c = found-by c.deref.result.now (boxed_slice_items c.self.inside.ways) c.args.from c.in_ok-leader.leader.host c.in_ok-leader.leader.link c.in-Some.place c.index_mut-way.result.now c.way_between.result c.deref.ensures.value c.way_between.ensures c.in-Some.is c.index_mut-way.ensures.value c.is_free.ensures.inside

way_taken : (c : goal.After-self-1) → has_way c.args.self.now c.args.from (host_in c.args.message) ≡ true
way_taken c = ap (λ (leader : Leader). has_way c.args.self.now c.args.from leader.host) (sym c.in_ok-leader.ensures.leader)
    ∙ has_way-found (boxed_slice_items c.self.inside.ways) c.args.self.now c.args.from c.in_ok-leader.leader.host c.in-Some.place c.self.view_is ((found_taken c).position)

read_taken : (c : goal.After-self-1) → transit_at c.args.self.now c.args.from (host_in c.args.message) (link_in c.args.message) ≡ on_link c.index_mut-way.result.now c.in_ok-leader.leader.link
read_taken c = ap (λ (leader : Leader). transit_at c.args.self.now c.args.from leader.host leader.link) (sym c.in_ok-leader.ensures.leader)
    ∙ transit-found (boxed_slice_items c.self.inside.ways) c.args.self.now c.args.from c.in_ok-leader.leader.host c.in_ok-leader.leader.link c.in-Some.place c.index_mut-way.result.now c.self.view_is (found_taken c)

-- A way leads there, and the link is free.

found_open : (c : goal.After-self-2-1) → Found (boxed_slice_items c.self.inside.ways) c.args.from c.in_ok-leader.leader.host c.in_ok-leader.leader.link c.in-Some.place c.index_mut-way.result.now
found_open c = found-by c.deref.result.now (boxed_slice_items c.self.inside.ways) c.args.from c.in_ok-leader.leader.host c.in_ok-leader.leader.link c.in-Some.place c.index_mut-way.result.now c.way_between.result c.deref.ensures.value c.way_between.ensures c.in-Some.is c.index_mut-way.ensures.value c.is_free.ensures.inside

way_open : (c : goal.After-self-2-1) → has_way c.args.self.now c.args.from (host_in c.args.message) ≡ true
way_open c = ap (λ (leader : Leader). has_way c.args.self.now c.args.from leader.host) (sym c.in_ok-leader.ensures.leader)
    ∙ has_way-found (boxed_slice_items c.self.inside.ways) c.args.self.now c.args.from c.in_ok-leader.leader.host c.in-Some.place c.self.view_is ((found_open c).position)

read_open : (c : goal.After-self-2-1) → transit_at c.args.self.now c.args.from (host_in c.args.message) (link_in c.args.message) ≡ on_link c.index_mut-way.result.now c.in_ok-leader.leader.link
read_open c = ap (λ (leader : Leader). transit_at c.args.self.now c.args.from leader.host leader.link) (sym c.in_ok-leader.ensures.leader)
    ∙ transit-found (boxed_slice_items c.self.inside.ways) c.args.self.now c.args.from c.in_ok-leader.leader.host c.in_ok-leader.leader.link c.in-Some.place c.index_mut-way.result.now c.self.view_is (found_open c)

is_taken : (c : goal.After-self-1) → transit_at c.args.self.now c.args.from (host_in c.args.message) (link_in c.args.message) ≢ Free
is_taken c = not_free (transit_at c.args.self.now c.args.from (host_in c.args.message) (link_in c.args.message)) (ap is_free (read_taken c) ∙ sym c.is_free.ensures.free ∙ c.if-not-is_free.true)

pub returns-then-not-is_free-clause-variant : goal.returns-then-not-is_free-clause-variant
returns-then-not-is_free-clause-variant c = (λ e. absurd cc, λ none. absurd (none.1.1.0 (is_taken c)))

pub returns-then-not-is_free-clause-first : goal.returns-then-not-is_free-clause-first
returns-then-not-is_free-clause-first c =
    inr (λ not. not c.in_ok-leader.ensures.regular, inr (λ none. let k : true ≡ false = sym (way_taken c) ∙ none in cc, inl (refl, is_taken c)))

is_open : (c : goal.After-self-2-1) → transit_at c.args.self.now c.args.from (host_in c.args.message) (link_in c.args.message) ≡ Free
is_open c = free (transit_at c.args.self.now c.args.from (host_in c.args.message) (link_in c.args.message)) (ap is_free (read_open c) ∙ sym c.is_free.ensures.free ∙ c.if-not-is_free.false)

pub returns-clause-variant : goal.returns-clause-variant
returns-clause-variant c = (λ e. (λ not. not c.in_ok-leader.ensures.regular, (λ none. let k : true ≡ false = sym (way_open c) ∙ none in cc, (λ taken. taken (is_open c), tt))), λ none. refl)

pub returns-clause-ok : goal.returns-clause-ok
returns-clause-ok c =
    ap (λ (way : OneWay). subnet_in (slice_set (boxed_slice_items c.self.inside.ways) c.in-Some.place way)) c.accept.ensures
    ∙ changed-found (boxed_slice_items c.self.inside.ways) c.args.self.now c.args.from c.in_ok-leader.leader.host c.in_ok-leader.leader.link c.in-Some.place c.index_mut-way.result.now (Accepted c.args.message) c.self.view_is (found_open c)
    ∙ ap (λ (leader : Leader). with_transit c.args.self.now c.args.from leader.host leader.link (Accepted c.args.message)) c.in_ok-leader.ensures.leader
