use Rattle.ncp_leader.proofs.Messages.{reads_or_stands, message_leader}
use Rattle.ncp_leader.proofs.laws.read_stands.Goals as goal

pub returns-clause-message : goal.returns-clause-message
returns-clause-message c = reads_or_stands

pub returns-clause-leader : goal.returns-clause-leader
returns-clause-leader c = message_leader
