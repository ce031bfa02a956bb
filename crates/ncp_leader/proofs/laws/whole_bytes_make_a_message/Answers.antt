use Rattle.ncp_leader.proofs.Messages.{IsMessage-with}
use Rattle.ncp_leader.proofs.laws.whole_bytes_make_a_message.Goals as goal

pub returns : goal.returns
returns c = IsMessage-with
