use Rattle.std.proofs.Common.{ap}
use Rattle.ncp_leader.specs.Message.{Message}
use Rattle.ncp_leader.proofs.regular.Regular.size.Goals as goal

pub returns-clause-size : goal.returns-clause-size
returns-clause-size c = ap (λ (m : Message). m.size) c.self.view_is

pub returns-clause-some : goal.returns-clause-some
returns-clause-some c = c.self.invariant.some
