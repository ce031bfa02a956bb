use Rattle.ncp_proof_interface_resets.proofs.Walk.{nobody_blamed}
use Rattle.ncp_proof_interface_resets.proofs.resets.no_host_is_blamed_through_resets.Goals as goal

pub returns : goal.returns
returns c = nobody_blamed
