use Rattle.ncp_proof_monitor.proofs.FileWalk.{none_blamed}
use Rattle.ncp_proof_monitor.proofs.alarms.no_host_is_blamed.Goals as goal

pub returns : goal.returns
returns c = none_blamed
