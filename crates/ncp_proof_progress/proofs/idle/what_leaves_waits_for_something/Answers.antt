use Rattle.ncp_proof_progress.proofs.LeavingEnds.{leaving-after, leaving-ever}
use Rattle.ncp_proof_progress.proofs.idle.what_leaves_waits_for_something.Goals as goal

pub returns-clause-after : goal.returns-clause-after
returns-clause-after c = leaving-after

pub returns-clause-ever : goal.returns-clause-ever
returns-clause-ever c = leaving-ever
