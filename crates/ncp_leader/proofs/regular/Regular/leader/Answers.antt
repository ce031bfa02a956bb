use Rattle.std.proofs.Common.{ap}
use Rattle.ncp_leader.specs.Message.{Message}
use Rattle.ncp_leader.proofs.regular.Regular.leader.Goals as goal

pub returns-clause-leader : goal.returns-clause-leader
returns-clause-leader c = ap (λ (m : Message). m.leader) c.self.view_is

pub returns-clause-fits : goal.returns-clause-fits
returns-clause-fits c = c.self.invariant.leader
