use Rattle.ncp_model.specs.Phase.{is_reset}
use Rattle.ncp_phase.proofs.Strikes.{Turned}
use Rattle.ncp_phase.proofs.queue.Queue.strike.Given as goal

abbrev pub invariant-loop-place : goal.invariant-loop-place
invariant-loop-place l = Turned is_reset l.initial.self-inside.commands.items l._place l.self-inside.commands
