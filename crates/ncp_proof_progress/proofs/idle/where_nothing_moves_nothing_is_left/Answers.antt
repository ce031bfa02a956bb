use Rattle.ncp_proof_progress.proofs.Settled.{start-settled, up-settled, asked-unsettled, ever-idle}
use Rattle.ncp_proof_progress.proofs.idle.where_nothing_moves_nothing_is_left.Goals as goal

pub returns-clause-begins : goal.returns-clause-begins
returns-clause-begins c = start-settled

pub returns-clause-ever : goal.returns-clause-ever
returns-clause-ever c = ever-idle

pub returns-clause-up : goal.returns-clause-up
returns-clause-up c = up-settled

pub returns-clause-asked : goal.returns-clause-asked
returns-clause-asked c = asked-unsettled
