use Rattle.std.proofs.Common.{◌++◌, List, ℕ, drop, ap}
use Rattle.std.proofs.lemmas.Result.{err_from_is_err_and}
use Rattle.ncp_play_stream.specs.Streams.{RemainingInput}
use Rattle.ncp_play_files.specs.declared.version.Version.TheVariants.{One, Two}
use Rattle.ncp_play_files.proofs.Totalling.{file_no_header, file_counted}
use Rattle.ncp_play_files.proofs.checking.totals_file.Goals as goal

pub returns-in_err-direction-clause-output : goal.returns-in_err-direction-clause-output
returns-in_err-direction-clause-output g c = λ bytes e.
    let p = err_from_is_err_and c.from_residual.result c.from_residual.ensures.1 in
    let ahead : RemainingInput c.args.input.now.window.now (g.S.Source.left c.args.input.now.source.now) bytes = (bytes, e, ap (λ (w : List ℕ). w ++ bytes) c.requires) in
    rw (p.1, p.2) (file_no_header bytes c.read_version.new.input.window.now (g.S.Source.left c.read_version.new.input.source.now) c.in_err-direction.field-0.0 (c.in_err-direction.ensures.output bytes ahead))

pub returns-in-One-clause-output : goal.returns-in-One-clause-output
returns-in-One-clause-output g c = λ bytes e.
    let ahead : RemainingInput c.args.input.now.window.now (g.S.Source.left c.args.input.now.source.now) bytes = (bytes, e, ap (λ (w : List ℕ). w ++ bytes) c.requires) in
    let read = rw c.in-One.is at (c.in_ok-direction.ensures.output bytes ahead) in
    file_counted bytes (One c.in-One.direction) c.totals_records.result (g.S.Source.left c.totals_records.new.input.source.now) read.0 (c.totals_records.ensures.output (drop 4 bytes) read.1)

pub returns-in-Two-clause-output : goal.returns-in-Two-clause-output
returns-in-Two-clause-output g c = λ bytes e.
    let ahead : RemainingInput c.args.input.now.window.now (g.S.Source.left c.args.input.now.source.now) bytes = (bytes, e, ap (λ (w : List ℕ). w ++ bytes) c.requires) in
    let read = rw c.in-Two.is at (c.in_ok-direction.ensures.output bytes ahead) in
    file_counted bytes Two c.totals_records-in-Two.result (g.S.Source.left c.totals_records-in-Two.new.input.source.now) read.0 (c.totals_records-in-Two.ensures.output (drop 4 bytes) read.1)
