use Rattle.ncp_proof_runs.proofs.InRuns.{nothing_ready}
use Rattle.ncp_proof_runs.proofs.links.nothing_goes_out_where_none_is_ready.Goals as goal

pub returns : goal.returns
returns c me ns before after from n on is a_link = nothing_ready me ns before after n on from is a_link
