use Rattle.ncp_proof_monitor_messages.proofs.Among.{none_found}
use Rattle.ncp_proof_monitor_messages.proofs.many.nothing_is_found_among_many.Goals as goal

pub returns : goal.returns
returns c = none_found
