use Rattle.std.proofs.Common.{ℕ, None, Some, refl, sym, ap, ◌∙◌, length-set}
use Rattle.std.specs.Box.{boxed_slice_items}
use Rattle.std.specs.List.{zip}
use Rattle.ncp_host.specs.Host.{Host}
use Rattle.ncp_peer.specs.Hearing.{after_bits}
use Rattle.ncp_host.specs.Arrivals.{one_other, one_unknown}
use Rattle.ncp_host.proofs.Calling.{known, not_known, became}
use Rattle.ncp_host.proofs.Living.{heard}
use Rattle.ncp_host.proofs.Arriving.{other_received, other_heard, from_received, from_heard}
use Rattle.ncp_host.proofs.host.Host.hear.Goals as goal

pub returns-then-not-is_kind-clause-received : goal.returns-then-not-is_kind-clause-received
returns-then-not-is_kind-clause-received g c = other_received c.args.leader.now c.args.bits.now c.args.self.now (sym c.is_kind.ensures ∙ c.if-not-is_kind.true)

pub returns-then-not-is_kind-clause-host : goal.returns-then-not-is_kind-clause-host
returns-then-not-is_kind-clause-host g c =
    let h : Host = record { me = c.self.inside.me; peers = zip c.self.inside.numbers.items (boxed_slice_items c.self.inside.peers); ignored = c.self.inside.ignored } in
    other_heard c.args.leader.now c.args.bits.now c.args.self.now _ (sym c.is_kind.ensures ∙ c.if-not-is_kind.true)
    (ap (λ (n : ℕ). record h { ignored = record h.ignored { other = n } }) c.one_more-self-inside.ensures ∙ ap one_other c.self.view_is)

pub returns-in_default-clause-received : goal.returns-in_default-clause-received
returns-in_default-clause-received g c =
    let none = not_known c.self.inside.me c.self.inside.numbers.items (boxed_slice_items c.self.inside.peers) c.self.inside.ignored c.args.leader.now.host
    c.args.self.now c.as_slice.result.now c.deref.result.now c.in_default.field-0 c.self.view_is c.as_slice.ensures.value c.deref.ensures.value c.in_default.ensures.found in
    from_received c.args.leader.now c.args.bits.now c.args.self.now None _ (sym c.is_kind.ensures ∙ c.if-not-is_kind.false) none refl

pub returns-in_default-clause-host : goal.returns-in_default-clause-host
returns-in_default-clause-host g c =
    let h : Host = record { me = c.self.inside.me; peers = zip c.self.inside.numbers.items (boxed_slice_items c.self.inside.peers); ignored = c.self.inside.ignored } in
    let none = not_known c.self.inside.me c.self.inside.numbers.items (boxed_slice_items c.self.inside.peers) c.self.inside.ignored c.args.leader.now.host
    c.args.self.now c.as_slice.result.now c.deref.result.now c.in_default.field-0 c.self.view_is c.as_slice.ensures.value c.deref.ensures.value c.in_default.ensures.found in
    from_heard c.args.leader.now c.args.bits.now c.args.self.now None _ (sym c.is_kind.ensures ∙ c.if-not-is_kind.false) none
    (ap (λ (n : ℕ). record h { ignored = record h.ignored { unknown = n } }) c.one_more-self-inside-in_default.ensures ∙ ap one_unknown c.self.view_is)

pub returns-clause-received : goal.returns-clause-received
returns-clause-received g c =
    let there = known c.self.inside.me c.self.inside.numbers.items (boxed_slice_items c.self.inside.peers) c.self.inside.ignored c.args.leader.now.host c.in-Ok.place c.index_mut.result.now c.index_mut.result.now
    c.args.self.now c.as_slice.result.now c.deref.result.now c.self.view_is c.as_slice.ensures.value c.deref.ensures.value c.in-Ok.ensures.found c.in-Ok.ensures.inside c.index_mut.ensures.value in
    from_received c.args.leader.now c.args.bits.now c.args.self.now (Some c.index_mut.result.now) c.receive.result (sym c.is_kind.ensures ∙ c.if-not-is_kind.false) there c.receive.ensures.received

pub returns-clause-host : goal.returns-clause-host
returns-clause-host g c =
    let there = known c.self.inside.me c.self.inside.numbers.items (boxed_slice_items c.self.inside.peers) c.self.inside.ignored c.args.leader.now.host c.in-Ok.place c.index_mut.result.now c.index_mut.result.now
    c.args.self.now c.as_slice.result.now c.deref.result.now c.self.view_is c.as_slice.ensures.value c.deref.ensures.value c.in-Ok.ensures.found c.in-Ok.ensures.inside c.index_mut.ensures.value in
    from_heard c.args.leader.now c.args.bits.now c.args.self.now (Some c.index_mut.result.now) _ (sym c.is_kind.ensures ∙ c.if-not-is_kind.false) there
    (became c.self.inside.me c.self.inside.numbers.items (boxed_slice_items c.self.inside.peers) c.self.inside.ignored c.args.leader.now.host c.in-Ok.place c.index_mut.result.now c.index_mut.result.now
    c.args.self.now c.as_slice.result.now c.deref.result.now c.self.view_is c.as_slice.ensures.value c.deref.ensures.value c.in-Ok.ensures.found c.in-Ok.ensures.inside c.index_mut.ensures.value
    (after_bits c.args.leader.now c.args.bits.now) c.receive.new.self c.receive.ensures.state)

-- it lives on, whatever the leader says

pub invariant_of-self : goal.invariant_of-self
invariant_of-self g c =
    let h : Host = record { me = c.self.inside.me; peers = zip c.self.inside.numbers.items (boxed_slice_items c.self.inside.peers); ignored = c.self.inside.ignored } in
    heard c.self.inside.me c.self.inside.numbers.items (boxed_slice_items c.self.inside.peers) c.self.inside.ignored c.self.invariant c.args.leader.now c.args.bits.now c.args.self.now (boxed_slice_items c.self.inside.peers) _ c.requires c.self.view_is refl
    (other_heard c.args.leader.now c.args.bits.now c.args.self.now _ (sym c.is_kind.ensures ∙ c.if-not-is_kind.true)
    (ap (λ (n : ℕ). record h { ignored = record h.ignored { other = n } }) c.one_more-self-inside.ensures ∙ ap one_other c.self.view_is))

pub invariant_of-self-in_default : goal.invariant_of-self-in_default
invariant_of-self-in_default g c =
    let h : Host = record { me = c.self.inside.me; peers = zip c.self.inside.numbers.items (boxed_slice_items c.self.inside.peers); ignored = c.self.inside.ignored } in
    let none = not_known c.self.inside.me c.self.inside.numbers.items (boxed_slice_items c.self.inside.peers) c.self.inside.ignored c.args.leader.now.host
    c.args.self.now c.as_slice.result.now c.deref.result.now c.in_default.field-0 c.self.view_is c.as_slice.ensures.value c.deref.ensures.value c.in_default.ensures.found in
    heard c.self.inside.me c.self.inside.numbers.items (boxed_slice_items c.self.inside.peers) c.self.inside.ignored c.self.invariant c.args.leader.now c.args.bits.now c.args.self.now (boxed_slice_items c.self.inside.peers) _ c.requires c.self.view_is refl
    (from_heard c.args.leader.now c.args.bits.now c.args.self.now None _ (sym c.is_kind.ensures ∙ c.if-not-is_kind.false) none
    (ap (λ (n : ℕ). record h { ignored = record h.ignored { unknown = n } }) c.one_more-self-inside-in_default.ensures ∙ ap one_unknown c.self.view_is))

pub invariant_of-self-2 : goal.invariant_of-self-2
invariant_of-self-2 g c =
    let there = known c.self.inside.me c.self.inside.numbers.items (boxed_slice_items c.self.inside.peers) c.self.inside.ignored c.args.leader.now.host c.in-Ok.place c.index_mut.result.now c.index_mut.result.now
    c.args.self.now c.as_slice.result.now c.deref.result.now c.self.view_is c.as_slice.ensures.value c.deref.ensures.value c.in-Ok.ensures.found c.in-Ok.ensures.inside c.index_mut.ensures.value in
    heard c.self.inside.me c.self.inside.numbers.items (boxed_slice_items c.self.inside.peers) c.self.inside.ignored c.self.invariant c.args.leader.now c.args.bits.now c.args.self.now _ c.self.inside.ignored c.requires c.self.view_is (simp length-set refl)
    (from_heard c.args.leader.now c.args.bits.now c.args.self.now (Some c.index_mut.result.now) _ (sym c.is_kind.ensures ∙ c.if-not-is_kind.false) there
    (became c.self.inside.me c.self.inside.numbers.items (boxed_slice_items c.self.inside.peers) c.self.inside.ignored c.args.leader.now.host c.in-Ok.place c.index_mut.result.now c.index_mut.result.now
    c.args.self.now c.as_slice.result.now c.deref.result.now c.self.view_is c.as_slice.ensures.value c.deref.ensures.value c.in-Ok.ensures.found c.in-Ok.ensures.inside c.index_mut.ensures.value
    (after_bits c.args.leader.now c.args.bits.now) c.receive.new.self c.receive.ensures.state))
