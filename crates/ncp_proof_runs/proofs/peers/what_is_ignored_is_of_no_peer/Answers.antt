use Rattle.ncp_proof_runs.proofs.Ignored.{ignored_told}
use Rattle.ncp_proof_runs.proofs.peers.what_is_ignored_is_of_no_peer.Goals as goal

pub returns : goal.returns
returns c = ignored_told
