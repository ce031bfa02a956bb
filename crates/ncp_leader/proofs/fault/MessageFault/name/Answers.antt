use Rattle.std.proofs.Common.{refl}
use Rattle.ncp_leader.proofs.fault.MessageFault.name.Goals as goal

pub returns-in-M1NotZero : goal.returns-in-M1NotZero
returns-in-M1NotZero c = rw c.in-M1NotZero.is refl
