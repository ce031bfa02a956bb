use Rattle.ncp_leader.proofs.Leaders.{leader_in-bits}
use Rattle.ncp_leader.proofs.Messages.{message_in-bits}
use Rattle.ncp_leader.proofs.laws.written_is_read.Goals as goal

pub returns-clause-leader : goal.returns-clause-leader
returns-clause-leader c = leader_in-bits

pub returns-clause-message : goal.returns-clause-message
returns-clause-message c = message_in-bits
