use Rattle.std.proofs.Common.{◌∙◌, ap}
use Rattle.ncp_leader.specs.Message.{message_in}
use Rattle.ncp_leader.proofs.Messages.{only_law}
use Rattle.ncp_leader.proofs.regular.read_regular.Goals as goal

pub returns-clause-exact : goal.returns-clause-exact
returns-clause-exact c = c.read_regular_in.ensures.exact ∙ ap message_in c.whole.ensures

pub returns-clause-found : goal.returns-clause-found
returns-clause-found c = rw c.whole.ensures at c.read_regular_in.ensures.found

pub returns-clause-only : goal.returns-clause-only
returns-clause-only c = only_law c.args.bits.now _ (c.read_regular_in.ensures.exact ∙ ap message_in c.whole.ensures)
