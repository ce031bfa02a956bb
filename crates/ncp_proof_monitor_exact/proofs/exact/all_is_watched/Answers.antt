use Rattle.ncp_proof_monitor_exact.proofs.Order.{watches_all}
use Rattle.ncp_proof_monitor_exact.proofs.exact.all_is_watched.Goals as goal

pub returns : goal.returns
returns c = watches_all
