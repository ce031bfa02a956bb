use Rattle.ncp_proof_monitor_exact.proofs.Whole.{exact_of_all}
use Rattle.ncp_proof_monitor_exact.proofs.exact.the_rules_of_messages_are_exact_of_all.Goals as goal

pub returns : goal.returns
returns c = exact_of_all
