use Rattle.std.proofs.Common.{inl, Err, ap, ◌∙◌}
use Rattle.std.specs.Box.{boxed_slice_items}
use Rattle.std.proofs.lemmas.Result.{err_from_is_err_and}
use Rattle.ncp_model.specs.Peers.{Ask_to_receive, comes_of, reply}
use Rattle.ncp_peer.specs.PeerState.{state_calls}
use Rattle.ncp_host.specs.Calls.{sockets}
use Rattle.ncp_host.proofs.Calling.{host_called, called_lives, stays, unknown, untouched}
use Rattle.ncp_host.proofs.host.Host.ask_receive.Goals as goal

pub returns-clause-done : goal.returns-clause-done
returns-clause-done g c =
    host_called c.self.inside.me c.self.inside.numbers.items (boxed_slice_items c.self.inside.peers) c.self.inside.ignored c.args.peer c.in_ok-place.place c.index_mut.result.now c.index_mut.result.now c.ask_receive.new.self (sockets c.args.local c.args.remote) (Ask_to_receive c.args.room) c.ask_receive.result
    c.args.self.now c.as_slice.result.now c.deref.result.now c.self.view_is c.as_slice.ensures.value c.deref.ensures.value c.in_ok-place.ensures.found c.in_ok-place.ensures.inside c.index_mut.ensures.value c.ask_receive.ensures.done

pub returns-clause-err : goal.returns-clause-err
returns-clause-err g c =
    stays c.self.inside.me c.self.inside.numbers.items (boxed_slice_items c.self.inside.peers) c.self.inside.ignored c.args.peer c.in_ok-place.place c.index_mut.result.now c.index_mut.result.now
    c.args.self.now c.as_slice.result.now c.deref.result.now c.self.view_is c.as_slice.ensures.value c.deref.ensures.value c.in_ok-place.ensures.found c.in_ok-place.ensures.inside c.index_mut.ensures.value
    c.ask_receive.result c.ask_receive.new.self c.ask_receive.ensures.err

pub returns-in_err-place-clause-done : goal.returns-in_err-place-clause-done
returns-in_err-place-clause-done g c =
    let e = err_from_is_err_and c.from_residual.result c.from_residual.ensures.1 in
    let told = unknown c.self.inside.me c.self.inside.numbers.items (boxed_slice_items c.self.inside.peers) c.self.inside.ignored c.args.peer
    c.args.self.now c.as_slice.result.now c.deref.result.now c.in_err-place.field-0.0 c.self.view_is c.as_slice.ensures.value c.deref.ensures.value c.in_err-place.ensures.found
    (λ s. reply (comes_of (sockets c.args.local c.args.remote) (Ask_to_receive c.args.room) s.peer)) c.from_residual.result (e.1 ∙ ap Err e.2) in
    inl (
      told,
      untouched c.self.inside.me c.self.inside.numbers.items (boxed_slice_items c.self.inside.peers) c.self.inside.ignored c.args.peer
          c.args.self.now c.as_slice.result.now c.deref.result.now c.in_err-place.field-0.0 c.self.view_is c.as_slice.ensures.value c.deref.ensures.value c.in_err-place.ensures.found
          (state_calls (sockets c.args.local c.args.remote) (Ask_to_receive c.args.room)),
    )

pub invariant_of-self : goal.invariant_of-self
invariant_of-self g c =
    called_lives c.self.inside.me c.self.inside.numbers.items (boxed_slice_items c.self.inside.peers) c.self.inside.ignored c.args.peer c.in_ok-place.place c.index_mut.result.now c.index_mut.result.now c.ask_receive.new.self (sockets c.args.local c.args.remote) (Ask_to_receive c.args.room) c.ask_receive.result
    c.args.self.now c.as_slice.result.now c.deref.result.now c.self.view_is c.as_slice.ensures.value c.deref.ensures.value c.in_ok-place.ensures.found c.in_ok-place.ensures.inside c.index_mut.ensures.value c.ask_receive.ensures.done c.self.invariant
