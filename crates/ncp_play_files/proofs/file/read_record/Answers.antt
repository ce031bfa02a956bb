use Rattle.std.proofs.Common.{◌∙◌, ◌||◌, is_some, sym, ap, lt_of_lt_of_le}
use Rattle.std.proofs.lemmas.Result.{err_from_is_err_and}
use Rattle.ncp_play_files.proofs.Files.{fault_read, effort_shorter}
use Rattle.ncp_play_files.proofs.Waiting.{waited_plain}
use Rattle.ncp_play_files.proofs.file.read_record.Goals as goal

pub returns-in_err-len-clause-output : goal.returns-in_err-len-clause-output
returns-in_err-len-clause-output g c = λ bytes a.
    let p = err_from_is_err_and c.from_residual.result c.from_residual.ensures.1 in
    rw (p.1, p.2) (c.in_err-len.ensures.output bytes a)

pub returns-in_default-clause-output : goal.returns-in_default-clause-output
returns-in_default-clause-output g c = λ bytes a. rw c.in_default.is at (c.in_ok-len.ensures.output bytes a)

pub returns-in_err-take_record-clause-output : goal.returns-in_err-take_record-clause-output
returns-in_err-take_record-clause-output g c = λ bytes a.
    let p = err_from_is_err_and c.from_residual-in_err-take_record.result c.from_residual-in_err-take_record.ensures.1 in
    let left = g.S.Source.left c.need_record.new.input.source.now in
    let ahead = rw c.in-Some.is at (c.in_ok-len.ensures.output bytes a) in
    rw (p.1, p.2) (fault_read bytes c.take_record.new.window c.take_record.new.message left c.in_err-take_record.field-0.0 (c.in_err-take_record.ensures.output bytes left ahead))

pub returns-clause-output : goal.returns-clause-output
returns-clause-output g c = λ bytes a.
    let ahead = rw c.in-Some.is at (c.in_ok-len.ensures.output bytes a) in
    c.in_ok-take_record.ensures.output bytes (g.S.Source.left c.need_record.new.input.source.now) ahead

pub returns-in_err-take_record-clause-mark : goal.returns-in_err-take_record-clause-mark
returns-in_err-take_record-clause-mark g c =
    let p = err_from_is_err_and c.from_residual-in_err-take_record.result c.from_residual-in_err-take_record.ensures.1 in
    rw (p.1, p.2) (c.in_ok-len.ensures.mark ∙ ap (λ b. g.S.Source.has_failed c.args.input.now.source.now || b) (sym c.in_err-take_record.ensures.read))

pub returns-in_err-take_record-clause-other : goal.returns-in_err-take_record-clause-other
returns-in_err-take_record-clause-other g c =
    let p = err_from_is_err_and c.from_residual-in_err-take_record.result c.from_residual-in_err-take_record.ensures.1 in
    rw (p.1, p.2) c.in_err-take_record.ensures.write

pub returns-clause-taken : goal.returns-clause-taken
returns-clause-taken g c = λ found. c.in_ok-len.ensures.taken (ap is_some c.in-Some.is)

pub returns-clause-read_measure : goal.returns-clause-read_measure
returns-clause-read_measure g c = λ found. lt_of_lt_of_le (effort_shorter (g.S.Source.reads c.need_record.new.input.source.now) c.need_record.new.input.window.now c.take_record.new.window c.in_ok-take_record.ensures.shorter) c.in_ok-len.ensures.read_measure

pub returns-clause-waited : goal.returns-clause-waited
returns-clause-waited g c = λ found.
    let s = g.S.Source in
    let whole = rw c.in-Some.is at c.in_ok-len.ensures.stands in
    waited_plain (s.reads c.args.input.now.source.now) (s.reads c.need_record.new.input.source.now) c.args.input.now.window.now c.need_record.new.input.window.now c.in-Some.len c.in_ok-len.ensures.lowers (c.in_ok-len.ensures.unread (ap is_some c.in-Some.is)) whole
