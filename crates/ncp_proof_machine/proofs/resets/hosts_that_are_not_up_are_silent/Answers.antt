use Rattle.ncp_proof_machine.proofs.ResetRuns.{silent, silent_back}
use Rattle.ncp_proof_machine.proofs.resets.hosts_that_are_not_up_are_silent.Goals as goal

pub returns-clause-there : goal.returns-clause-there
returns-clause-there c = silent

pub returns-clause-back : goal.returns-clause-back
returns-clause-back c = silent_back
