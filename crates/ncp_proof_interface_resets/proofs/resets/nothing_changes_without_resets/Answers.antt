use Rattle.ncp_proof_interface_resets.proofs.Plain.{without_notices}
use Rattle.ncp_proof_interface_resets.proofs.resets.nothing_changes_without_resets.Goals as goal

pub returns : goal.returns
returns c = without_notices
