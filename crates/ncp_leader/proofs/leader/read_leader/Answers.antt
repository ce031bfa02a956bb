use Rattle.std.proofs.Common.{ap, ◌∙◌}
use Rattle.ncp_leader.specs.Leader.{leader_in}
use Rattle.ncp_leader.proofs.leader.read_leader.Goals as goal

pub returns-clause-exact : goal.returns-clause-exact
returns-clause-exact c = c.read_leader_in.ensures.exact ∙ ap leader_in c.whole.ensures

pub returns-clause-short : goal.returns-clause-short
returns-clause-short c = rw c.whole.ensures at c.read_leader_in.ensures.short

pub returns-clause-found : goal.returns-clause-found
returns-clause-found c = rw c.whole.ensures at c.read_leader_in.ensures.found
