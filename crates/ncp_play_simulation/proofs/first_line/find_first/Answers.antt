use Rattle.ncp_play_simulation.proofs.first_line.find_first.Goals as goal

pub returns-in-Ok-Played-clause-output : goal.returns-in-Ok-Played-clause-output
returns-in-Ok-Played-clause-output g c = λ bytes ahead. let next = rw c.in-Ok-Played.field-0-is at (c.in-Ok-Played.ensures.output bytes ahead) in (c.in-Ok-Played.field-0-0, next.0, next.1, next.2, next.3)

pub returns-in-Ok-TooLong-clause-output : goal.returns-in-Ok-TooLong-clause-output
returns-in-Ok-TooLong-clause-output g c = λ bytes ahead. rw c.in-Ok-TooLong.field-0-is at (c.in-Ok-TooLong.ensures.output bytes ahead)

pub returns-in-Ok-Over-clause-output : goal.returns-in-Ok-Over-clause-output
returns-in-Ok-Over-clause-output g c = λ bytes ahead. rw c.in-Ok-Over.field-0-is at (c.in-Ok-Over.ensures.output bytes ahead)

pub returns-in-Err-clause-output : goal.returns-in-Err-clause-output
returns-in-Err-clause-output g c = λ bytes ahead. c.in-Err.ensures.output bytes ahead
