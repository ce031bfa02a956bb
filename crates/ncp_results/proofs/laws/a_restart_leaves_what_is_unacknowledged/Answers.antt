use Rattle.ncp_results.proofs.EachLink.{restart_leaves}
use Rattle.ncp_results.proofs.laws.a_restart_leaves_what_is_unacknowledged.Goals as goal

pub returns : goal.returns
returns c = restart_leaves
