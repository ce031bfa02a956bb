use Rattle.ncp_control.proofs.Reading.{error_about, error_at_fault}
use Rattle.ncp_control.proofs.laws.errors_are_commands.Goals as goal

pub returns-clause-about : goal.returns-clause-about
returns-clause-about c = error_about

pub returns-clause-fault : goal.returns-clause-fault
returns-clause-fault c = error_at_fault
