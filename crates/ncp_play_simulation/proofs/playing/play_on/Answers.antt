use Rattle.std.proofs.Common.{◌≡◌, ◌∙◌, ◌||◌, ap}
use Rattle.std.proofs.Math.Bool.{or-false}
use Rattle.ncp_play_simulation.proofs.playing.play_on.Goals as goal

pub returns-in-Ok-flush_before_line-clause-output : goal.returns-in-Ok-flush_before_line-clause-output
returns-in-Ok-flush_before_line-clause-output g c = λ began was told.
    let one = c.in-Ok.ensures.output began was told in
    (one.0, one.1, c.in-Ok-flush_before_line.ensures.ok was _ one.2)

pub returns-in-Err-flush_before_line-clause-output : goal.returns-in-Err-flush_before_line-clause-output
returns-in-Err-flush_before_line-clause-output g c = λ began was told.
    let one = c.in-Ok.ensures.output began was told in
    (c.in-Err-flush_before_line.ensures.err.0, c.in-Err-flush_before_line.ensures.err.1 was _ one.2)
