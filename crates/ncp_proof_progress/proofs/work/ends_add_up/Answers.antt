use Rattle.ncp_proof_progress.proofs.EndsWork.{ends-put, ends-none}
use Rattle.ncp_proof_progress.proofs.work.ends_add_up.Goals as goal

pub returns-clause-put : goal.returns-clause-put
returns-clause-put c = ends-put

pub returns-clause-none : goal.returns-clause-none
returns-clause-none c = ends-none
