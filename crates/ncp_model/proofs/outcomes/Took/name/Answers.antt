use Rattle.std.proofs.Common.{refl}
use Rattle.ncp_model.proofs.outcomes.Took.name.Goals as goal

pub returns-in-Over : goal.returns-in-Over
returns-in-Over c = rw c.in-Over.is refl
