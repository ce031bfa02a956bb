use Rattle.std.proofs.Common.{◌∙◌, sym, ap}
use Rattle.std.proofs.lemmas.Result.{err_from_is_err_and}
use Rattle.ncp_play_script.specs.Words.{words_of}
use Rattle.ncp_play_script.specs.Scripts.{lines_of}
use Rattle.ncp_play_reader.specs.NextLines.{next_from, ended_lines}
use Rattle.ncp_play_host.proofs.Begun.{begins_none, begins_too_long, begins, begins_not}
use Rattle.ncp_play_host.proofs.beginning.begin.Goals as goal

pub returns-in_err-alone-in-Ok-Played-clause-output : goal.returns-in_err-alone-in-Ok-Played-clause-output
returns-in_err-alone-in-Ok-Played-clause-output g c = λ bytes ahead.
    let p = err_from_is_err_and c.from_residual.result c.from_residual.ensures.1 in
    rw (p.1, p.2) (
    begins_not c.args.lines.now.number bytes c.in-Ok-Played.field-0-0 c.in-Ok-Played.ended c.next_played.new.lines (g.R.Source.left c.next_played.new.source) c.requires (rw c.in-Ok-Played.field-0-is at (c.in-Ok-Played.ensures.output bytes ahead))
    c.new-words.result (c.new-words.ensures ∙ ap words_of c.text.ensures) c.in_err-alone-in-Ok-Played.field-0.0 c.in_err-alone-in-Ok-Played.ensures.output)

pub returns-in-Ok-Over-clause-output : goal.returns-in-Ok-Over-clause-output
returns-in-Ok-Over-clause-output g c = λ bytes ahead.
    let none = rw c.in-Ok-Over.field-0-is at (c.in-Ok-Over.ensures.output bytes ahead) in
    begins_none (lines_of bytes) (rw c.requires at none)

pub returns-in-Ok-TooLong-clause-output : goal.returns-in-Ok-TooLong-clause-output
returns-in-Ok-TooLong-clause-output g c = λ bytes ahead.
    begins_too_long c.args.lines.now.number bytes c.in-Ok-TooLong.number c.next_played.new.lines (g.R.Source.left c.next_played.new.source) c.requires (rw c.in-Ok-TooLong.field-0-is at (c.in-Ok-TooLong.ensures.output bytes ahead))

pub returns-in_ok-alone-in-Ok-Played-clause-output : goal.returns-in_ok-alone-in-Ok-Played-clause-output
returns-in_ok-alone-in-Ok-Played-clause-output g c = λ bytes ahead.
    begins c.args.lines.now.number bytes c.in-Ok-Played.field-0-0 c.in-Ok-Played.ended c.next_played.new.lines (g.R.Source.left c.next_played.new.source) c.requires (rw c.in-Ok-Played.field-0-is at (c.in-Ok-Played.ensures.output bytes ahead))
    c.new-words.result (c.new-words.ensures ∙ ap words_of c.text.ensures) c.in_ok-alone-in-Ok-Played.alone c.in_ok-alone-in-Ok-Played.hosts c.in_ok-alone-in-Ok-Played.ensures.output

pub returns-in-Err-clause-output : goal.returns-in-Err-clause-output
returns-in-Err-clause-output g c = λ bytes ahead.
    let read = c.in-Err.ensures.output bytes ahead in
    (read.0, read.1, ap (λ n. next_from n (ended_lines (lines_of read.0))) (sym c.requires) ∙ read.2)
