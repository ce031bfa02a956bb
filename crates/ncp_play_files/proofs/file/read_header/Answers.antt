use Rattle.std.proofs.Common.{refl, ap}
use Rattle.std.proofs.lemmas.Result.{err_from_is_err_and}
use Rattle.ncp_play_files.specs.File.{one_direction}
use Rattle.ncp_play_files.proofs.Placing.{header_ends}
use Rattle.ncp_play_files.proofs.file.read_header.Goals as goal

pub returns-in_err-direction-clause-output : goal.returns-in_err-direction-clause-output
returns-in_err-direction-clause-output g c = λ bytes a.
    let p = err_from_is_err_and c.from_residual.result c.from_residual.ensures.1 in
    rw (p.1, p.2) (header_ends bytes c.read_version.new.input.window.now (g.S.Source.left c.read_version.new.input.source.now) c.in_err-direction.field-0.0 (c.in_err-direction.ensures.output bytes a))

pub returns-in-One-clause-output : goal.returns-in-One-clause-output
returns-in-One-clause-output g c = λ bytes a.
    let read = rw c.in-One.is at (c.in_ok-direction.ensures.output bytes a) in
    (ap one_direction read.0, read.1)

pub returns-in-Two-clause-output : goal.returns-in-Two-clause-output
returns-in-Two-clause-output g c = λ bytes a.
    let read = rw c.in-Two.is at (c.in_ok-direction.ensures.output bytes a) in
    (refl, ap one_direction read.0)
