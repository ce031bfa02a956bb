use Rattle.std.proofs.Common.{Ok, None, is_some, refl, ap}
use Rattle.std.proofs.lemmas.Result.{err_from_is_err_and}
use Rattle.ncp_play_files.specs.Versions.{capture_point_without_host, recorded}
use Rattle.ncp_play_files.proofs.Placing.{one_stops}
use Rattle.ncp_play_files.proofs.Waiting.{waited_plain}
use Rattle.ncp_play_files.proofs.version.PlainRecordsRecords.find_next.Goals as goal

pub returns-in_err-len-clause-output : goal.returns-in_err-len-clause-output
returns-in_err-len-clause-output g c = λ bytes a.
    let p = err_from_is_err_and c.from_residual.result c.from_residual.ensures.1 in
    rw (p.1, p.2) (one_stops c.args.self.direction bytes c.need_record.new.input.window.now (g.S.Source.left c.need_record.new.input.source.now) c.in_err-len.field-0.0 (c.in_err-len.ensures.output bytes a))

pub returns-in_default-clause-output : goal.returns-in_default-clause-output
returns-in_default-clause-output g c = λ bytes a. ap (recorded (capture_point_without_host c.args.self.direction) (Ok None)) (rw c.in_default.is at (c.in_ok-len.ensures.output bytes a))

pub returns-clause-output : goal.returns-clause-output
returns-clause-output g c = λ bytes a. (bytes, Ok None, refl, rw c.in-Some.is at (c.in_ok-len.ensures.output bytes a))

pub returns-clause-waited : goal.returns-clause-waited
returns-clause-waited g c = λ found.
    let s = g.S.Source in
    let whole = rw c.in-Some.is at c.in_ok-len.ensures.stands in
    waited_plain (s.reads c.args.input.now.source.now) (s.reads c.need_record.new.input.source.now) c.args.input.now.window.now c.need_record.new.input.window.now c.in-Some.len c.in_ok-len.ensures.lowers (c.in_ok-len.ensures.unread (ap is_some c.in-Some.is)) whole
