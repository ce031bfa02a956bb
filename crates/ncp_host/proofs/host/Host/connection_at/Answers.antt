use Rattle.std.proofs.Common.{Ok, Err, ap, ◌∙◌}
use Rattle.std.specs.Box.{boxed_slice_items}
use Rattle.std.proofs.lemmas.Result.{err_from_is_err_and}
use Rattle.ncp_conn.specs.Listing.{connection_in}
use Rattle.ncp_host.proofs.Calling.{answered, unknown}
use Rattle.ncp_host.proofs.host.Host.connection_at.Goals as goal

pub returns-in_err-at : goal.returns-in_err-at
returns-in_err-at g c =
    let e = err_from_is_err_and c.from_residual.result c.from_residual.ensures.1 in
    unknown c.self.inside.me c.self.inside.numbers.items (boxed_slice_items c.self.inside.peers) c.self.inside.ignored c.args.peer
    c.args.self.now c.as_slice.result.now c.deref.result.now c.in_err-at.field-0.0 c.self.view_is c.as_slice.ensures.value c.deref.ensures.value c.in_err-at.ensures.found
    (λ s. Ok (connection_in c.args.place s.peer.ends)) c.from_residual.result (e.1 ∙ ap Err e.2)

pub returns : goal.returns
returns g c =
    answered c.self.inside.me c.self.inside.numbers.items (boxed_slice_items c.self.inside.peers) c.self.inside.ignored c.args.peer c.in_ok-at.at c.index.result.now c.index.result.now
    c.args.self.now c.as_slice.result.now c.deref.result.now c.self.view_is c.as_slice.ensures.value c.deref.ensures.value c.in_ok-at.ensures.found c.in_ok-at.ensures.inside c.index.ensures
    (λ s. Ok (connection_in c.args.place s.peer.ends)) (Ok c.connection_at.result) (ap Ok c.connection_at.ensures)
