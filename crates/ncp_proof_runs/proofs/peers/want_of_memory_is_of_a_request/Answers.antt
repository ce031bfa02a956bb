use Rattle.ncp_proof_runs.proofs.Wanting.{want-said}
use Rattle.ncp_proof_runs.proofs.peers.want_of_memory_is_of_a_request.Goals as goal

pub returns : goal.returns
returns c call me ns before after from = want-said me ns before after call from
