use Rattle.ncp_control.proofs.Faults.{illegal, early}
use Rattle.ncp_control.proofs.laws.faults_are_distinguished.Goals as goal

pub returns-clause-illegal : goal.returns-clause-illegal
returns-clause-illegal c = illegal

pub returns-clause-early : goal.returns-clause-early
returns-clause-early c = early
