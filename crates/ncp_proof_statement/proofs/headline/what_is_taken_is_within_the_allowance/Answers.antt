use Rattle.ncp_proof_statement.proofs.GoingOn.{allowance}
use Rattle.ncp_proof_statement.proofs.headline.what_is_taken_is_within_the_allowance.Goals as goal

pub returns : goal.returns
returns c = allowance
