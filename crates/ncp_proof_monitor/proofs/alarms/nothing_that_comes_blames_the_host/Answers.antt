use Rattle.ncp_proof_monitor.proofs.Spared.{spared}
use Rattle.ncp_proof_monitor.proofs.alarms.nothing_that_comes_blames_the_host.Goals as goal

pub returns : goal.returns
returns c = spared
