use Rattle.ncp_leader.proofs.Same.{messages_decided}
use Rattle.ncp_leader.proofs.equality.equal_messages.Goals as goal

pub returns : goal.returns
returns c = messages_decided c.args.one.now c.args.other.now c.eq.result c.eq.ensures
