use Rattle.std.proofs.Common.{refl}
use Rattle.ncp_proof_progress.specs.Work.{queue_work, causes_all}
use Rattle.ncp_proof_progress.proofs.rows.work_of_ends.Goals as goal

pub returns-clause-open : goal.returns-clause-open
unfolding queue_work causes_all
returns-clause-open c = (refl, refl)

pub returns-clause-waiting : goal.returns-clause-waiting
unfolding queue_work causes_all
returns-clause-waiting c = refl

pub returns-clause-waiting_in_large_bytes : goal.returns-clause-waiting_in_large_bytes
unfolding queue_work causes_all
returns-clause-waiting_in_large_bytes c = refl

pub returns-clause-held : goal.returns-clause-held
unfolding queue_work causes_all
returns-clause-held c = refl

pub returns-clause-leaving : goal.returns-clause-leaving
unfolding queue_work causes_all
returns-clause-leaving c = (refl, refl)

pub returns-clause-left : goal.returns-clause-left
unfolding queue_work causes_all
returns-clause-left c = (refl, refl)
