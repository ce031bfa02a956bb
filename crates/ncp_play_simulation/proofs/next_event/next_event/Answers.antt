use Rattle.std.proofs.Common.{◌∙◌}
use Rattle.ncp_play_simulation.proofs.AskedLines.{asks_read, asks_fault, asks_long, asks_over, asks_cut}
use Rattle.ncp_play_simulation.proofs.next_event.next_event.Goals as goal

pub returns-in-Ok-clause-output : goal.returns-in-Ok-clause-output
returns-in-Ok-clause-output g c = λ bytes ahead.
    let next = rw c.in-Ok-Played.field-0-is at (c.in-Ok-Played.ensures.output bytes ahead) in
    asks_read g.C.Simulation.rules c.args.first.now c.args.script.now.lines.now.number bytes c.in-Ok-Played.number next.0 c.next_played.new.lines (g.R.Source.left c.next_played.new.source) next.1 c.in-Ok.event c.in-Ok-Played.ended c.text.result.now c.in-Ok.ensures
    (c.text.ensures ∙ next.3) next.2

pub returns-in-Err-event_in-clause-output : goal.returns-in-Err-event_in-clause-output
returns-in-Err-event_in-clause-output g c = λ bytes ahead.
    let next = rw c.in-Ok-Played.field-0-is at (c.in-Ok-Played.ensures.output bytes ahead) in
    asks_fault g.C.Simulation.rules c.args.first.now c.args.script.now.lines.now.number bytes c.in-Ok-Played.number next.0 c.next_played.new.lines (g.R.Source.left c.next_played.new.source) next.1 c.in-Err-event_in.fault c.text.result.now (c.text.ensures ∙ next.3)
    c.in-Err-event_in.ensures

pub returns-in-Ok-TooLong-clause-output : goal.returns-in-Ok-TooLong-clause-output
returns-in-Ok-TooLong-clause-output g c = λ bytes ahead.
    let next = rw c.in-Ok-TooLong.field-0-is at (c.in-Ok-TooLong.ensures.output bytes ahead) in
    asks_long g.C.Simulation.rules c.args.first.now c.args.script.now.lines.now.number bytes c.in-Ok-TooLong.number next.0 c.next_played.new.lines (g.R.Source.left c.next_played.new.source) next.1

pub returns-in-Ok-Over-clause-output : goal.returns-in-Ok-Over-clause-output
returns-in-Ok-Over-clause-output g c = λ bytes ahead. asks_over g.C.Simulation.rules c.args.first.now c.args.script.now.lines.now.number bytes (rw c.in-Ok-Over.field-0-is at (c.in-Ok-Over.ensures.output bytes ahead))

pub returns-in-Err-clause-output : goal.returns-in-Err-clause-output
returns-in-Err-clause-output g c = λ bytes ahead.
    let cut = c.in-Err.ensures.output bytes ahead in
    (cut.0, cut.1, asks_cut g.C.Simulation.rules c.args.first.now c.args.script.now.lines.now.number bytes cut.0 cut.2)
