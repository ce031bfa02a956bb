use Rattle.ncp_proof_endpoint.proofs.LimitsKept.{limits-ever}
use Rattle.ncp_proof_endpoint.proofs.histories.ends_keep_their_limits.Goals as goal

pub returns : goal.returns
returns c = limits-ever
