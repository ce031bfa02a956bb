use Rattle.ncp_proof_monitor_network.proofs.WholeWalk.{nothing_found}
use Rattle.ncp_proof_monitor_network.proofs.two.nothing_is_found_by_any_rule.Goals as goal

pub returns : goal.returns
returns c = nothing_found
