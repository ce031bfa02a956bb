use Rattle.std.proofs.lemmas.Result.{err_from_is_err_and}
use Rattle.ncp_play_feed.proofs.Arrivals.{header_ends, other_header}
use Rattle.ncp_play_feed.proofs.feeding.read_feed_header.Goals as goal

pub returns-in_err-read_header-clause-output : goal.returns-in_err-read_header-clause-output
returns-in_err-read_header-clause-output g c = λ bytes ahead.
    let p = err_from_is_err_and c.from_residual.result c.from_residual.ensures.1 in
    rw (p.1, p.2) (header_ends bytes c.read_header.new.input.window.now (g.R.Source.left c.read_header.new.input.source.now) c.in_err-read_header.field-0.0 (c.in_err-read_header.ensures.output bytes ahead))

pub returns-in-FromImp-clause-output : goal.returns-in-FromImp-clause-output
returns-in-FromImp-clause-output g c = λ bytes ahead. rw c.in-FromImp.is at (c.in_ok-read_header.ensures.output bytes ahead)

pub returns-in-ToImp-clause-output : goal.returns-in-ToImp-clause-output
returns-in-ToImp-clause-output g c = λ bytes ahead. other_header bytes (rw c.in-ToImp.is at (c.in_ok-read_header.ensures.output bytes ahead)).0
