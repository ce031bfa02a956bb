use Rattle.ncp_proof_runs.proofs.Given.{granted-noted}
use Rattle.ncp_proof_runs.proofs.histories.what_is_allocated_is_granted.Goals as goal

pub returns : goal.returns
returns c = record { amounts = λ messages bits me ns before after n pair from. granted-noted me ns before after n pair messages bits from }
