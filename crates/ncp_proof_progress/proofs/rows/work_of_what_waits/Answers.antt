use Rattle.std.proofs.Common.{refl}
use Rattle.ncp_proof_progress.specs.Work.{queue_work, causes_all}
use Rattle.ncp_proof_progress.proofs.rows.work_of_what_waits.Goals as goal

pub returns-clause-queue : goal.returns-clause-queue
unfolding queue_work causes_all
returns-clause-queue c = refl

pub returns-clause-caused : goal.returns-clause-caused
unfolding queue_work causes_all
returns-clause-caused c = refl

pub returns-clause-owed : goal.returns-clause-owed
unfolding queue_work causes_all
returns-clause-owed c = refl

pub returns-clause-wanted : goal.returns-clause-wanted
unfolding queue_work causes_all
returns-clause-wanted c = refl

pub returns-clause-waiting : goal.returns-clause-waiting
unfolding queue_work causes_all
returns-clause-waiting c = refl

pub returns-clause-none : goal.returns-clause-none
unfolding queue_work causes_all
returns-clause-none c = refl
