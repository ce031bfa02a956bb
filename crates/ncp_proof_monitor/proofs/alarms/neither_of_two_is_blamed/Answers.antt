use Rattle.ncp_proof_monitor.proofs.TwoHosts.{neither_blamed}
use Rattle.ncp_proof_monitor.proofs.alarms.neither_of_two_is_blamed.Goals as goal

pub returns : goal.returns
returns c = neither_blamed
