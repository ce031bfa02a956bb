use Rattle.std.proofs.Common.{◌∙◌, ◌||◌, ap}
use Rattle.std.proofs.Math.Bool.{or-false}
use Rattle.ncp_play_notes.specs.Faults.{play_write_failed}
use Rattle.ncp_play_simulation.specs.NextEvents.{course_of}
use Rattle.ncp_play_simulation.proofs.PlayedLines.{none_first}
use Rattle.ncp_play_simulation.proofs.player.play_rest.Goals as goal

pub returns-in-Ok-clause-events : goal.returns-in-Ok-clause-events
returns-in-Ok-clause-events g c = λ bytes ahead none. c.play_lines.ensures.events bytes ahead

pub returns-in-Ok-clause-output : goal.returns-in-Ok-clause-output
returns-in-Ok-clause-output g c = λ began was told. c.play_lines.ensures.output began was (told.0, told.1, c.in-Ok.ensures.ok was _ told.2)

pub returns-in-Err-clause-events : goal.returns-in-Err-clause-events
returns-in-Err-clause-events g c = λ bytes ahead none. none_first g.C.Simulation.rules (course_of g.C.Simulation.rules c.args.first.now c.args.script.now.lines.now.number bytes) c.args.player.now.hosts

pub returns-in-Err-clause-output : goal.returns-in-Err-clause-output
returns-in-Err-clause-output g c = λ began was told. (c.in-Err.ensures.err.0, c.in-Err.ensures.err.1 was _ told.2)

pub returns-in-Ok-clause-sink_mark : goal.returns-in-Ok-clause-sink_mark
returns-in-Ok-clause-sink_mark g c = c.play_lines.ensures.sink_mark ∙ ap (λ b. b || play_write_failed c.play_lines.result) (c.in-Ok.ensures.mark ∙ or-false _)
