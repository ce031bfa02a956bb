use Rattle.ncp_proof_runs.proofs.Given.{given-noted}
use Rattle.ncp_proof_runs.proofs.histories.what_give_takes_is_given.Goals as goal

pub returns : goal.returns
returns c text me ns before after n pair from = given-noted me ns before after n pair text from
