use Rattle.ncp_proof_progress.proofs.EndWork.{paid}
use Rattle.ncp_proof_progress.proofs.work.what_happens_is_bounded.Goals as goal

pub returns : goal.returns
returns c = paid
