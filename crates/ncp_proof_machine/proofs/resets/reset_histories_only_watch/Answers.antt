use Rattle.ncp_proof_machine.proofs.ResetRuns.{phase-makes_all, phase-hears}
use Rattle.ncp_proof_machine.proofs.resets.reset_histories_only_watch.Goals as goal

pub returns-clause-hears : goal.returns-clause-hears
returns-clause-hears c = phase-hears

pub returns-clause-makes_all : goal.returns-clause-makes_all
returns-clause-makes_all c = phase-makes_all
