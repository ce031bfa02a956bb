-- Each way, by the invariant of two hosts.
use Rattle.ncp_proof_machine.proofs.ResetRuns.{agrees, agrees_back}
use Rattle.ncp_proof_machine.proofs.resets.commands_act_once_in_each_schedule.Goals as goal

pub returns-clause-there : goal.returns-clause-there
returns-clause-there c = agrees

pub returns-clause-back : goal.returns-clause-back
returns-clause-back c = agrees_back
