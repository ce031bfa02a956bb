use Rattle.ncp_proof_runs.proofs.InOrder.{commands-noted}
use Rattle.ncp_proof_runs.proofs.commands.commands_go_out_as_they_were_made.Goals as goal

pub returns : goal.returns
returns c = commands-noted
