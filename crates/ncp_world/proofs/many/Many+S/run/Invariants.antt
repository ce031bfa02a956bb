use Rattle.std.proofs.Common.{drop}
use Rattle.ncp_transcript_many.specs.ManyTranscript.{Noted_many, AreManySteps}
use Rattle.ncp_world.proofs.many.Many+S.run.Given as goal

-- what the rest does from here, all of it does from the beginning
abbrev pub invariant-loop-event : goal.invariant-loop-event
invariant-loop-event g l = (last : Noted_many) → AreManySteps (drop l.event-index l.events) l.many last → AreManySteps l.events l.initial.many last
