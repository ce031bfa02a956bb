use Rattle.std.proofs.Common.{◌∙◌, ◌||◌, is_some, sym, ap, lt_of_lt_of_le}
use Rattle.std.proofs.lemmas.Result.{err_from_is_err_and}
use Rattle.ncp_play_files.specs.Versions.{recorded}
use Rattle.ncp_play_files.proofs.Files.{effort_shorter}
use Rattle.ncp_play_files.proofs.Placing.{found_stops}
use Rattle.ncp_play_files.proofs.version.read_next_of.Goals as goal

pub returns-in_err-found-clause-output : goal.returns-in_err-found-clause-output
returns-in_err-found-clause-output g c = λ bytes a.
    let p = err_from_is_err_and c.from_residual.result c.from_residual.ensures.1 in
    rw (p.1, p.2) (c.in_err-found.ensures.output bytes a)

pub returns-in_default-clause-output : goal.returns-in_default-clause-output
returns-in_default-clause-output g c = λ bytes a. rw c.in_default.is at (c.in_ok-found.ensures.output bytes a)

pub returns-in_err-take_record-clause-output : goal.returns-in_err-take_record-clause-output
returns-in_err-take_record-clause-output g c = λ bytes a.
    let p = err_from_is_err_and c.from_residual-in_err-take_record.result c.from_residual-in_err-take_record.ensures.1 in
    let left = g.S.Source.left c.find_next.new.input.source.now in
    let found = rw c.in-Some.is at (c.in_ok-found.ensures.output bytes a) in
    rw (p.1, p.2) (
    found_stops (g.R.Records.version c.args.records) bytes found.0 c.in-Some.found.capture_point found.1 left c.in_err-take_record.field-0.0 found.2 (c.in_err-take_record.ensures.output found.0 left found.3))

pub returns-clause-output : goal.returns-clause-output
returns-clause-output g c = λ bytes a.
    let found = rw c.in-Some.is at (c.in_ok-found.ensures.output bytes a) in
    let taken = c.in_ok-take_record.ensures.output found.0 (g.S.Source.left c.find_next.new.input.source.now) found.3 in
    (taken.0, found.2 ∙ ap (recorded c.in-Some.found.capture_point found.1) taken.1, taken.2)

pub returns-in_err-take_record-clause-mark : goal.returns-in_err-take_record-clause-mark
returns-in_err-take_record-clause-mark g c =
    let p = err_from_is_err_and c.from_residual-in_err-take_record.result c.from_residual-in_err-take_record.ensures.1 in
    rw (p.1, p.2) (c.in_ok-found.ensures.mark ∙ ap (λ b. g.S.Source.has_failed c.args.input.now.source.now || b) (sym c.in_err-take_record.ensures.read))

pub returns-in_err-take_record-clause-other : goal.returns-in_err-take_record-clause-other
returns-in_err-take_record-clause-other g c =
    let p = err_from_is_err_and c.from_residual-in_err-take_record.result c.from_residual-in_err-take_record.ensures.1 in
    rw (p.1, p.2) c.in_err-take_record.ensures.write

pub returns-clause-taken : goal.returns-clause-taken
returns-clause-taken g c = λ found. c.in_ok-found.ensures.taken (ap is_some c.in-Some.is)

pub returns-clause-read_measure : goal.returns-clause-read_measure
returns-clause-read_measure g c = λ found. lt_of_lt_of_le (effort_shorter (g.S.Source.reads c.find_next.new.input.source.now) c.find_next.new.input.window.now c.take_record.new.window c.in_ok-take_record.ensures.shorter) c.in_ok-found.ensures.read_measure

pub returns-clause-waited : goal.returns-clause-waited
returns-clause-waited g c = λ found. c.in_ok-found.ensures.waited (ap is_some c.in-Some.is)
