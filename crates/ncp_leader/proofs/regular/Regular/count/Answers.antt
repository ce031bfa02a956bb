use Rattle.std.proofs.Common.{ap}
use Rattle.ncp_leader.specs.Message.{Message}
use Rattle.ncp_leader.proofs.regular.Regular.count.Goals as goal

pub returns : goal.returns
returns c = ap (λ (m : Message). m.count) c.self.view_is
