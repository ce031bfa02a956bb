use Rattle.ncp_proof_progress.proofs.PairsFinished.{ever-finished}
use Rattle.ncp_proof_progress.proofs.finished.where_nothing_moves_two_are_finished.Goals as goal

pub returns : goal.returns
returns c = ever-finished
