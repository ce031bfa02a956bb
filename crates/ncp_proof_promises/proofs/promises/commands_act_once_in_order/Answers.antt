use Rattle.ncp_proof_promises.proofs.Watching.{agree, are-silent}
use Rattle.ncp_proof_promises.proofs.promises.commands_act_once_in_order.Goals as goal

pub returns-clause-agree : goal.returns-clause-agree
returns-clause-agree c = agree

pub returns-clause-silent : goal.returns-clause-silent
returns-clause-silent c = are-silent
