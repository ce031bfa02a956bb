use Rattle.std.proofs.Common.{Err, refl, ap, ◌∙◌}
use Rattle.std.specs.Box.{boxed_slice_items}
use Rattle.std.proofs.lemmas.Result.{err_from_is_err_and}
use Rattle.ncp_model.specs.Peers.{Interrupt, comes_of, reply}
use Rattle.ncp_peer.specs.PeerState.{state_calls}
use Rattle.ncp_host.specs.Running.{Calls}
use Rattle.ncp_host.proofs.Calling.{answered, became, lives, stays, unknown, untouched}
use Rattle.ncp_host.proofs.host.Host.interrupt.Goals as goal

pub returns-clause-reply : goal.returns-clause-reply
returns-clause-reply g c =
    answered c.self.inside.me c.self.inside.numbers.items (boxed_slice_items c.self.inside.peers) c.self.inside.ignored c.args.peer c.in_ok-place.place c.index_mut.result.now c.index_mut.result.now
    c.args.self.now c.as_slice.result.now c.deref.result.now c.self.view_is c.as_slice.ensures.value c.deref.ensures.value c.in_ok-place.ensures.found c.in_ok-place.ensures.inside c.index_mut.ensures.value
    (λ s. reply (comes_of c.args.pair Interrupt s.peer)) c.interrupt.result c.interrupt.ensures.reply

pub returns-clause-host : goal.returns-clause-host
returns-clause-host g c =
    became c.self.inside.me c.self.inside.numbers.items (boxed_slice_items c.self.inside.peers) c.self.inside.ignored c.args.peer c.in_ok-place.place c.index_mut.result.now c.index_mut.result.now
    c.args.self.now c.as_slice.result.now c.deref.result.now c.self.view_is c.as_slice.ensures.value c.deref.ensures.value c.in_ok-place.ensures.found c.in_ok-place.ensures.inside c.index_mut.ensures.value
    (state_calls c.args.pair Interrupt) c.interrupt.new.self c.interrupt.ensures.state

pub returns-clause-err : goal.returns-clause-err
returns-clause-err g c =
    stays c.self.inside.me c.self.inside.numbers.items (boxed_slice_items c.self.inside.peers) c.self.inside.ignored c.args.peer c.in_ok-place.place c.index_mut.result.now c.index_mut.result.now
    c.args.self.now c.as_slice.result.now c.deref.result.now c.self.view_is c.as_slice.ensures.value c.deref.ensures.value c.in_ok-place.ensures.found c.in_ok-place.ensures.inside c.index_mut.ensures.value
    c.interrupt.result c.interrupt.new.self c.interrupt.ensures.err

pub returns-in_err-place-clause-reply : goal.returns-in_err-place-clause-reply
returns-in_err-place-clause-reply g c =
    let e = err_from_is_err_and c.from_residual.result c.from_residual.ensures.1 in
    unknown c.self.inside.me c.self.inside.numbers.items (boxed_slice_items c.self.inside.peers) c.self.inside.ignored c.args.peer
    c.args.self.now c.as_slice.result.now c.deref.result.now c.in_err-place.field-0.0 c.self.view_is c.as_slice.ensures.value c.deref.ensures.value c.in_err-place.ensures.found
    (λ s. reply (comes_of c.args.pair Interrupt s.peer)) c.from_residual.result (e.1 ∙ ap Err e.2)

pub returns-in_err-place-clause-host : goal.returns-in_err-place-clause-host
returns-in_err-place-clause-host g c =
    untouched c.self.inside.me c.self.inside.numbers.items (boxed_slice_items c.self.inside.peers) c.self.inside.ignored c.args.peer
    c.args.self.now c.as_slice.result.now c.deref.result.now c.in_err-place.field-0.0 c.self.view_is c.as_slice.ensures.value c.deref.ensures.value c.in_err-place.ensures.found
    (state_calls c.args.pair Interrupt)

pub invariant_of-self : goal.invariant_of-self
invariant_of-self g c =
    lives c.self.inside.me c.self.inside.numbers.items (boxed_slice_items c.self.inside.peers) c.self.inside.ignored c.args.peer c.in_ok-place.place c.index_mut.result.now c.index_mut.result.now
    c.args.self.now c.as_slice.result.now c.deref.result.now c.self.view_is c.as_slice.ensures.value c.deref.ensures.value c.in_ok-place.ensures.found c.in_ok-place.ensures.inside c.index_mut.ensures.value
    (Calls c.args.peer c.args.pair Interrupt) (state_calls c.args.pair Interrupt) c.interrupt.new.self c.interrupt.ensures.state refl c.self.invariant
