use Rattle.ncp_proof_monitor_exact.proofs.Order.{clean}
use Rattle.ncp_proof_monitor_exact.proofs.exact.clean_is_in_order.Goals as goal

pub returns : goal.returns
returns c = clean
