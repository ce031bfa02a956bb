use Rattle.ncp_proof_monitor.proofs.LinkWalk.{none_blamed}
use Rattle.ncp_proof_monitor.proofs.alarms.no_link_is_blamed.Goals as goal

pub returns : goal.returns
returns c = none_blamed
