use Rattle.ncp_leader.proofs.Judged.{read_first, read_none, write_first, write_none}
use Rattle.ncp_leader.proofs.laws.message_faults_are_in_order.Goals as goal

pub returns-clause-read : goal.returns-clause-read
returns-clause-read c = read_first

pub returns-clause-found : goal.returns-clause-found
returns-clause-found c = read_none

pub returns-clause-write : goal.returns-clause-write
returns-clause-write c = write_first

pub returns-clause-made : goal.returns-clause-made
returns-clause-made c = write_none
