use Rattle.std.proofs.Common.{Ok, Err, ap, ◌∙◌}
use Rattle.std.specs.Box.{boxed_slice_items}
use Rattle.std.proofs.lemmas.Result.{err_from_is_err_and}
use Rattle.ncp_conn.specs.Listing.{pair_demuxed_to}
use Rattle.ncp_host.proofs.Calling.{answered, unknown}
use Rattle.ncp_host.proofs.host.Host.pair_on.Goals as goal

pub returns-in_err-place : goal.returns-in_err-place
returns-in_err-place g c =
    let e = err_from_is_err_and c.from_residual.result c.from_residual.ensures.1 in
    unknown c.self.inside.me c.self.inside.numbers.items (boxed_slice_items c.self.inside.peers) c.self.inside.ignored c.args.peer
    c.args.self.now c.as_slice.result.now c.deref.result.now c.in_err-place.field-0.0 c.self.view_is c.as_slice.ensures.value c.deref.ensures.value c.in_err-place.ensures.found
    (λ s. Ok (pair_demuxed_to c.args.end c.args.link s.peer.ends)) c.from_residual.result (e.1 ∙ ap Err e.2)

pub returns : goal.returns
returns g c =
    answered c.self.inside.me c.self.inside.numbers.items (boxed_slice_items c.self.inside.peers) c.self.inside.ignored c.args.peer c.in_ok-place.place c.index.result.now c.index.result.now
    c.args.self.now c.as_slice.result.now c.deref.result.now c.self.view_is c.as_slice.ensures.value c.deref.ensures.value c.in_ok-place.ensures.found c.in_ok-place.ensures.inside c.index.ensures
    (λ s. Ok (pair_demuxed_to c.args.end c.args.link s.peer.ends)) (Ok c.pair_on.result) (ap Ok c.pair_on.ensures)
