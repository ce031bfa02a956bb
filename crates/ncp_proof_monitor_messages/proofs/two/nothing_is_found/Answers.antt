use Rattle.ncp_proof_monitor_messages.proofs.Both.{none_found}
use Rattle.ncp_proof_monitor_messages.proofs.two.nothing_is_found.Goals as goal

pub returns : goal.returns
returns c = none_found
