use Rattle.ncp_proof_progress.proofs.Still.{step-still}
use Rattle.ncp_proof_progress.proofs.HostsWork.{step-paid, run-paid, ever-paid}
use Rattle.ncp_proof_progress.proofs.hosts.every_schedule_ends.Goals as goal

pub returns-clause-step : goal.returns-clause-step
returns-clause-step c = step-paid

pub returns-clause-still : goal.returns-clause-still
returns-clause-still c = step-still

pub returns-clause-from : goal.returns-clause-from
returns-clause-from c = run-paid

pub returns-clause-ever : goal.returns-clause-ever
returns-clause-ever c = ever-paid
