use Rattle.ncp_proof_statement.proofs.Taking.{taken-kept}
use Rattle.ncp_proof_statement.proofs.since.what_is_taken_since_the_ask_is_taken_since_the_opening.Goals as goal

pub returns : goal.returns
returns c = taken-kept
