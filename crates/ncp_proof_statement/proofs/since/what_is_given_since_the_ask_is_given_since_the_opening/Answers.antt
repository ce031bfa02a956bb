use Rattle.ncp_proof_statement.proofs.Giving.{given-kept}
use Rattle.ncp_proof_statement.proofs.since.what_is_given_since_the_ask_is_given_since_the_opening.Goals as goal

pub returns : goal.returns
returns c = given-kept
