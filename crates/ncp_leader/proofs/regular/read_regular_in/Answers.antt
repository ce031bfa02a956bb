use Rattle.ncp_leader.proofs.Messages.{read_stands, only_law}
use Rattle.ncp_leader.proofs.regular.read_regular_in.Goals as goal

pub returns-clause-exact : goal.returns-clause-exact
returns-clause-exact c = c.message_of.ensures

pub returns-clause-found : goal.returns-clause-found
returns-clause-found c = rw c.message_of.ensures (read_stands c.args.part.now)

pub returns-clause-only : goal.returns-clause-only
returns-clause-only c = only_law c.args.part.now _ c.message_of.ensures
