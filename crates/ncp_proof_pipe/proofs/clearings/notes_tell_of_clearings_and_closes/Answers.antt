use Rattle.std.proofs.Common.{false}
use Rattle.ncp_peer.specs.PeerState.{new_state}
use Rattle.ncp_proof_pipe.proofs.Clearing.{all-explained}
use Rattle.ncp_proof_pipe.proofs.Closing.{all-closes}
use Rattle.ncp_proof_pipe.proofs.clearings.notes_tell_of_clearings_and_closes.Goals as goal

pub returns-clause-cleared : goal.returns-clause-cleared
returns-clause-cleared c pair told = all-explained pair told new_state false (λ x. absurd (cc x))

pub returns-clause-closed : goal.returns-clause-closed
returns-clause-closed c pair told = all-closes pair told new_state
