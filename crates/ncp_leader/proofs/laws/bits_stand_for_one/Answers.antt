use Rattle.ncp_leader.proofs.Leaders.{one_leader}
use Rattle.ncp_leader.proofs.Messages.{one_message}
use Rattle.ncp_leader.proofs.laws.bits_stand_for_one.Goals as goal

pub returns-clause-leader : goal.returns-clause-leader
returns-clause-leader c = one_leader

pub returns-clause-message : goal.returns-clause-message
returns-clause-message c = one_message
