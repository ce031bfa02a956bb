use Rattle.std.proofs.Common.{◌∙◌, ◌||◌, inl, [], refl, ap, arith}
use Rattle.std.proofs.Math.Bool.{or-false}
use Rattle.ncp_play_notes.specs.Faults.{play_write_failed}
use Rattle.ncp_play_feed.proofs.Reading.{feed_some}
use Rattle.ncp_play_feed.proofs.feeding.feed.Goals as goal

pub returns-in-Ok-clause-events : goal.returns-in-Ok-clause-events
returns-in-Ok-clause-events g c = λ bytes ahead. c.feed_file.ensures.events bytes ahead

pub returns-in-Ok-clause-output : goal.returns-in-Ok-clause-output
returns-in-Ok-clause-output g c = λ was first told. c.feed_file.ensures.output was first (told.0, c.in-Ok.ensures.output was _ told.1)

pub returns-in-Err-clause-events : goal.returns-in-Err-clause-events
returns-in-Err-clause-events g c = λ bytes ahead. let all = feed_some bytes in inl ([], all.0, all.1, all.2, refl)

pub returns-in-Err-clause-output : goal.returns-in-Err-clause-output
returns-in-Err-clause-output g c = λ was first told. (c.in-Err.ensures.output.1, c.in-Err.ensures.output.2 was _ told.1)

pub returns-in-Ok-clause-writes : goal.returns-in-Ok-clause-writes
returns-in-Ok-clause-writes g c = omega (arith, c.in-Ok.ensures.writes, c.feed_file.ensures.writes)

pub returns-in-Err-clause-writes : goal.returns-in-Err-clause-writes
returns-in-Err-clause-writes g c = omega (arith, rw c.in-Err.ensures.output.0 at c.in-Err.ensures.writes)

pub returns-in-Err-clause-sink_mark : goal.returns-in-Err-clause-sink_mark
returns-in-Err-clause-sink_mark g c = rw c.in-Err.ensures.output.0 at c.in-Err.ensures.mark

pub returns-in-Ok-clause-sink_mark : goal.returns-in-Ok-clause-sink_mark
returns-in-Ok-clause-sink_mark g c =
    c.feed_file.ensures.sink_mark ∙ ap (λ b. b || play_write_failed c.feed_file.result) (c.in-Ok.ensures.mark ∙ or-false _)
