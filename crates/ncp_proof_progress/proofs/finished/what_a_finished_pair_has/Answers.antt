use Rattle.ncp_proof_progress.proofs.Meaning.{opened, closed, arrived, together}
use Rattle.ncp_proof_progress.proofs.finished.what_a_finished_pair_has.Goals as goal

pub returns-clause-opened : goal.returns-clause-opened
returns-clause-opened c = opened

pub returns-clause-closed : goal.returns-clause-closed
returns-clause-closed c = closed

pub returns-clause-arrived : goal.returns-clause-arrived
returns-clause-arrived c = arrived

pub returns-clause-together : goal.returns-clause-together
returns-clause-together c = together
