use Rattle.std.proofs.Common.{drop}
use Rattle.ncp_transcript_two.specs.Transcript.{Noted_world, AreSteps}
use Rattle.ncp_world.proofs.world.run.Given as goal

-- what the rest does from here, all of it does from the beginning
abbrev pub invariant-loop-event : goal.invariant-loop-event
invariant-loop-event g l = (last : Noted_world) → AreSteps (drop l.event-index l.events) l.world last → AreSteps l.events l.initial.world last
