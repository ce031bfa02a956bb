use Rattle.std.proofs.Common.{refl}
use Rattle.ncp_model.proofs.call_fault.CallFault.name.Goals as goal

pub returns-in-NotUp : goal.returns-in-NotUp
returns-in-NotUp c = rw c.in-NotUp.is refl
