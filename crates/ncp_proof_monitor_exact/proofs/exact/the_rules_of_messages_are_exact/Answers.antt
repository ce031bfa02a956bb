use Rattle.ncp_proof_monitor_exact.proofs.Begin.{exact}
use Rattle.ncp_proof_monitor_exact.proofs.exact.the_rules_of_messages_are_exact.Goals as goal

pub returns : goal.returns
returns c = exact
