use Rattle.std.proofs.Common.{◌∙◌, is_some, sym, ap}
use Rattle.std.proofs.lemmas.Result.{err_from_is_err_and}
use Rattle.ncp_play_files.specs.Converted.{next_of_capture_point}
use Rattle.ncp_play_files.proofs.Passages.{is_other, is_same}
use Rattle.ncp_play_files.proofs.Turned.{at_stops, at_accepted, at_refused}
use Rattle.ncp_play_files.proofs.converting.take_next.Goals as goal

pub returns-in_err-capture_point-clause-output : goal.returns-in_err-capture_point-clause-output
returns-in_err-capture_point-clause-output g c = λ bytes a.
    let p = err_from_is_err_and c.from_residual.result c.from_residual.ensures.1 in
    rw (p.1, p.2) (at_stops c.args.turn.from c.args.turn.wanted bytes (g.S.Source.left c.read_next.new.input.source.now) c.in_err-capture_point.field-0.0 (c.in_err-capture_point.ensures.output bytes a))

pub returns-in_default-clause-output : goal.returns-in_default-clause-output
returns-in_default-clause-output g c = λ bytes a. ap (next_of_capture_point c.args.turn.wanted) (rw c.in_default.is at (c.in_ok-capture_point.ensures.output bytes a))

pub returns-then-ne-clause-output : goal.returns-then-ne-clause-output
returns-then-ne-clause-output g c = λ bytes a.
    let read = rw c.in-Some.is at (c.in_ok-capture_point.ensures.output bytes a) in
    ap (next_of_capture_point c.args.turn.wanted) read.1 ∙ at_refused c.args.turn.wanted (record { capture_point = c.in-Some.capture_point; message = c.read_next.new.message }) read.0 (is_other c.in-Some.capture_point c.args.turn.wanted (sym c.ne.ensures ∙ c.if-ne.true))

pub returns-clause-output : goal.returns-clause-output
returns-clause-output g c = λ bytes a.
    let read = rw c.in-Some.is at (c.in_ok-capture_point.ensures.output bytes a) in (
      read.0,
      ap (next_of_capture_point c.args.turn.wanted) read.1 ∙ at_accepted c.args.turn.wanted (record { capture_point = c.in-Some.capture_point; message = c.read_next.new.message }) read.0 (is_same c.in-Some.capture_point c.args.turn.wanted (sym c.ne.ensures ∙ c.if-ne.false)),
      read.2,
    )

pub returns-clause-taken : goal.returns-clause-taken
returns-clause-taken g c = λ more. c.in_ok-capture_point.ensures.taken (ap is_some c.in-Some.is)

pub returns-clause-read_measure : goal.returns-clause-read_measure
returns-clause-read_measure g c = λ more. c.in_ok-capture_point.ensures.read_measure (ap is_some c.in-Some.is)

pub returns-clause-waited : goal.returns-clause-waited
returns-clause-waited g c = λ more. c.in_ok-capture_point.ensures.waited (ap is_some c.in-Some.is)
