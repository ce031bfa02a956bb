use Rattle.ncp_proof_quiescence.proofs.Finished.{ends-finished}
use Rattle.ncp_proof_quiescence.proofs.Beginning.{new-settled}
use Rattle.ncp_proof_quiescence.proofs.settled.where_nothing_can_happen_two_are_finished.Goals as goal

pub returns-clause-finished : goal.returns-clause-finished
returns-clause-finished c = ends-finished

pub returns-clause-new : goal.returns-clause-new
returns-clause-new c = new-settled
