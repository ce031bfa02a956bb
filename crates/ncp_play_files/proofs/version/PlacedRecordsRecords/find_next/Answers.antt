use Rattle.std.proofs.Common.{◌∙◌, ◌||◌, Err, is_some, ap, le_trans, arith}
use Rattle.std.proofs.Math.Bool.{or-false}
use Rattle.std.proofs.lemmas.Result.{err_from_is_err_and}
use Rattle.ncp_play_files.specs.declared.file.FileFault.TheVariants.{Truncated}
use Rattle.ncp_play_files.specs.Versions.{recorded, after_capture_point}
use Rattle.ncp_play_files.proofs.Placing.{capture_point_stops, message_stops}
use Rattle.ncp_play_files.specs.Results.{is_read}
use Rattle.ncp_play_files.proofs.Waiting.{waited_placed}
use Rattle.ncp_play_files.proofs.version.PlacedRecordsRecords.find_next.Goals as goal

pub returns-in_err-capture_point-clause-output : goal.returns-in_err-capture_point-clause-output
returns-in_err-capture_point-clause-output g c = λ bytes a.
    let p = err_from_is_err_and c.from_residual.result c.from_residual.ensures.1 in
    rw (p.1, p.2) (capture_point_stops bytes (g.S.Source.left c.read_capture_point.new.input.source.now) c.in_err-capture_point.field-0.0 (c.in_err-capture_point.ensures.output bytes a))

pub returns-in_default-clause-output : goal.returns-in_default-clause-output
returns-in_default-clause-output g c = λ bytes a. ap after_capture_point (rw c.in_default.is at (c.in_ok-capture_point.ensures.output bytes a))

pub returns-in_err-len-clause-output : goal.returns-in_err-len-clause-output
returns-in_err-len-clause-output g c = λ bytes a.
    let p = err_from_is_err_and c.from_residual-in_err-len.result c.from_residual-in_err-len.ensures.1 in
    let passed = rw c.in-Some.is at (c.in_ok-capture_point.ensures.output bytes a) in
    rw (p.1, p.2) (
    message_stops bytes passed.0 c.need_record.new.input.window.now c.in-Some.capture_point (g.S.Source.left c.need_record.new.input.source.now) c.in_err-len.field-0.0 passed.1 (c.in_err-len.ensures.output passed.0 passed.2))

pub returns-in_default-2-clause-output : goal.returns-in_default-2-clause-output
returns-in_default-2-clause-output g c = λ bytes a.
    let passed = rw c.in-Some.is at (c.in_ok-capture_point.ensures.output bytes a) in
    ap after_capture_point passed.1 ∙ ap (recorded c.in-Some.capture_point (Err Truncated)) (rw c.in_default-2.is at (c.in_ok-len.ensures.output passed.0 passed.2))

pub returns-clause-output : goal.returns-clause-output
returns-clause-output g c = λ bytes a.
    let passed = rw c.in-Some.is at (c.in_ok-capture_point.ensures.output bytes a) in
    (passed.0, Err Truncated, ap after_capture_point passed.1, rw c.in-Some-2.is at (c.in_ok-len.ensures.output passed.0 passed.2))

pub returns-in_err-len-clause-mark : goal.returns-in_err-len-clause-mark
returns-in_err-len-clause-mark g c =
    let p = err_from_is_err_and c.from_residual-in_err-len.result c.from_residual-in_err-len.ensures.1 in
    rw (p.1, p.2) (c.in_err-len.ensures.mark ∙ ap (λ b. b || is_read c.in_err-len.field-0.0) (c.in_ok-capture_point.ensures.mark ∙ or-false _))

pub returns-in_err-len-clause-reads : goal.returns-in_err-len-clause-reads
returns-in_err-len-clause-reads g c = le_trans (c.in_ok-capture_point.ensures.taken (ap is_some c.in-Some.is)) c.in_err-len.ensures.reads

pub returns-in_err-len-clause-read_measure : goal.returns-in_err-len-clause-read_measure
returns-in_err-len-clause-read_measure g c = le_trans c.in_err-len.ensures.read_measure c.in_ok-capture_point.ensures.read_measure

pub returns-in_default-2-clause-mark : goal.returns-in_default-2-clause-mark
returns-in_default-2-clause-mark g c = c.in_ok-len.ensures.mark ∙ or-false _ ∙ c.in_ok-capture_point.ensures.mark

pub returns-in_default-2-clause-reads : goal.returns-in_default-2-clause-reads
returns-in_default-2-clause-reads g c = le_trans (c.in_ok-capture_point.ensures.taken (ap is_some c.in-Some.is)) c.in_ok-len.ensures.reads

pub returns-in_default-2-clause-read_measure : goal.returns-in_default-2-clause-read_measure
returns-in_default-2-clause-read_measure g c = le_trans c.in_ok-len.ensures.read_measure c.in_ok-capture_point.ensures.read_measure

pub returns-clause-stands : goal.returns-clause-stands
returns-clause-stands g c = rw c.in-Some-2.is at c.in_ok-len.ensures.stands

pub returns-clause-mark : goal.returns-clause-mark
returns-clause-mark g c = c.in_ok-len.ensures.mark ∙ or-false _ ∙ c.in_ok-capture_point.ensures.mark

pub returns-clause-reads : goal.returns-clause-reads
returns-clause-reads g c = le_trans (c.in_ok-capture_point.ensures.taken (ap is_some c.in-Some.is)) c.in_ok-len.ensures.reads

pub returns-clause-taken : goal.returns-clause-taken
returns-clause-taken g c = λ found. le_trans (c.in_ok-capture_point.ensures.taken (ap is_some c.in-Some.is)) (c.in_ok-len.ensures.taken (ap is_some c.in-Some-2.is))

pub returns-clause-read_measure : goal.returns-clause-read_measure
returns-clause-read_measure g c = le_trans c.in_ok-len.ensures.read_measure c.in_ok-capture_point.ensures.read_measure

pub returns-in_err-len-clause-lowers : goal.returns-in_err-len-clause-lowers
returns-in_err-len-clause-lowers g c = le_trans c.in_err-len.ensures.lowers c.in_ok-capture_point.ensures.lowers

pub returns-in_default-2-clause-lowers : goal.returns-in_default-2-clause-lowers
returns-in_default-2-clause-lowers g c = le_trans c.in_ok-len.ensures.lowers c.in_ok-capture_point.ensures.lowers

pub returns-clause-lowers : goal.returns-clause-lowers
returns-clause-lowers g c = le_trans c.in_ok-len.ensures.lowers c.in_ok-capture_point.ensures.lowers

pub returns-clause-waited : goal.returns-clause-waited
returns-clause-waited g c = λ found.
    let s = g.S.Source in
    let whole = rw c.in-Some-2.is at c.in_ok-len.ensures.stands in
    waited_placed (s.reads c.args.input.now.source.now) (s.reads c.read_capture_point.new.input.source.now) (s.reads c.need_record.new.input.source.now) c.args.input.now.window.now c.read_capture_point.new.input.window.now c.need_record.new.input.window.now c.in-Some-2.len c.in_ok-len.ensures.lowers
    c.in_ok-capture_point.ensures.lowers (c.in_ok-capture_point.ensures.unread (ap is_some c.in-Some.is)) (c.in_ok-len.ensures.unread (ap is_some c.in-Some-2.is)) (omega (arith, whole.inside)) whole
