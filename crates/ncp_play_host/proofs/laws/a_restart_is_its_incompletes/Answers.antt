use Rattle.ncp_play_host.proofs.Incompletes.{restart_comes}
use Rattle.ncp_play_host.proofs.laws.a_restart_is_its_incompletes.Goals as goal

pub returns : goal.returns
returns c = restart_comes
