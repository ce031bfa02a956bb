use Rattle.std.proofs.Common.{◌∙◌, ◌||◌, sym, ap, le-add_right}
use Rattle.std.proofs.Math.Bool.{or-false}
use Rattle.std.proofs.lemmas.Result.{err_from_is_err_and}
use Rattle.ncp_play_files.specs.Converted.{next_at}
use Rattle.ncp_play_files.specs.Turning.{message_printed}
use Rattle.ncp_play_files.proofs.Progress.{next_ends}
use Rattle.ncp_play_files.proofs.converting.convert_next.Goals as goal

pub returns-in_err-take_on-clause-output : goal.returns-in_err-take_on-clause-output
returns-in_err-take_on-clause-output g c = λ number bytes was said a k.
    let p = err_from_is_err_and c.from_residual.result c.from_residual.ensures.1 in
    rw (p.1, p.2) (
    next_ends (next_at c.args.turn.from c.args.turn.wanted) (message_printed c.args.turn.given) number bytes was said c.take_on.new.input.window.now c.args.out.now.page.now (g.S.Source.left c.take_on.new.input.source.now) (g.W.Sink.written c.args.out.now.sink.now)
    c.in_err-take_on.field-0.0 (c.in_err-take_on.ensures.output bytes a) k)

pub returns-then-not-branch-clause-output : goal.returns-then-not-branch-clause-output
returns-then-not-branch-clause-output g c = λ number bytes was said a k. (rw c.if-not-branch.true at (c.in_ok-take_on.ensures.output bytes a), k)

pub returns-in-Ok-clause-output : goal.returns-in-Ok-clause-output
returns-in-Ok-clause-output g c = λ number bytes was said a k.
    let read = rw c.if-not-branch.false at (c.in_ok-take_on.ensures.output bytes a) in
    (c.take_on.new.message, read.0, read.1, read.2, (rw c.whole.ensures at c.in-Ok.ensures.output) was said k)

pub returns-in-Err-clause-output : goal.returns-in-Err-clause-output
returns-in-Err-clause-output g c = λ number bytes was said a k.
    let read = rw c.if-not-branch.false at (c.in_ok-take_on.ensures.output bytes a) in
    let broken = rw c.whole.ensures at c.in-Err.ensures.output in
    (c.take_on.new.message, read.0, broken.0, read.1, broken.1 was said k)

pub returns-in_err-take_on-clause-writes : goal.returns-in_err-take_on-clause-writes
returns-in_err-take_on-clause-writes g c = le-add_right _ _

pub returns-in_err-take_on-clause-sink_mark : goal.returns-in_err-take_on-clause-sink_mark
returns-in_err-take_on-clause-sink_mark g c =
    let p = err_from_is_err_and c.from_residual.result c.from_residual.ensures.1 in
    rw (p.1, p.2) (sym (or-false _) ∙ ap (λ b. g.W.Sink.has_failed c.args.out.now.sink.now || b) (sym c.in_err-take_on.ensures.other))

pub returns-then-not-branch-clause-writes : goal.returns-then-not-branch-clause-writes
returns-then-not-branch-clause-writes g c = le-add_right _ _

pub returns-then-not-branch-clause-sink_mark : goal.returns-then-not-branch-clause-sink_mark
returns-then-not-branch-clause-sink_mark g c = sym (or-false _)

pub returns-in-Ok-clause-taken : goal.returns-in-Ok-clause-taken
returns-in-Ok-clause-taken g c = λ more. c.in_ok-take_on.ensures.taken c.if-not-branch.false

pub returns-in-Ok-clause-read_measure : goal.returns-in-Ok-clause-read_measure
returns-in-Ok-clause-read_measure g c = λ more. c.in_ok-take_on.ensures.read_measure c.if-not-branch.false

pub returns-in-Ok-clause-waited : goal.returns-in-Ok-clause-waited
returns-in-Ok-clause-waited g c = λ some. c.in_ok-take_on.ensures.waited c.if-not-branch.false

pub returns-in-Err-clause-waited : goal.returns-in-Err-clause-waited
returns-in-Err-clause-waited g c = λ some. c.in_ok-take_on.ensures.waited c.if-not-branch.false
