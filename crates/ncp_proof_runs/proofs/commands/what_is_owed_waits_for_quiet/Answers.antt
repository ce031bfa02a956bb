use Rattle.ncp_proof_runs.proofs.Settled.{settled-noted}
use Rattle.ncp_proof_runs.proofs.commands.what_is_owed_waits_for_quiet.Goals as goal

pub returns-clause-answer : goal.returns-clause-answer
returns-clause-answer c me ns all n from is quiet = (settled-noted me ns all n from is quiet).0

pub returns-clause-reset : goal.returns-clause-reset
returns-clause-reset c me ns all n from is quiet = (settled-noted me ns all n from is quiet).1
