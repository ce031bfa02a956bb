use Rattle.ncp_control.proofs.Reading.{spelled, spelled_alone}
use Rattle.ncp_control.proofs.laws.spelled_commands_are_read.Goals as goal

pub returns-clause-commands : goal.returns-clause-commands
returns-clause-commands c = λ commands each. (spelled_alone commands each).0

pub returns-clause-commands_alone : goal.returns-clause-commands_alone
returns-clause-commands_alone c = λ commands each. (spelled_alone commands each).1

pub returns-clause-tail : goal.returns-clause-tail
returns-clause-tail c = λ commands tail each small none. (spelled commands tail each small none).0

pub returns-clause-tail_fault : goal.returns-clause-tail_fault
returns-clause-tail_fault c = λ commands tail each small none. (spelled commands tail each small none).1
