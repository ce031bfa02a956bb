use Rattle.ncp_proof_promises.specs.Taking.{IsTaken}
use Rattle.ncp_proof_promises.proofs.Each.{of-each-note}
use Rattle.ncp_proof_promises.proofs.OutTaken.{is-taken}
use Rattle.ncp_proof_promises.proofs.taking.each_output_is_accepted_after_its_note.Goals as goal

pub returns : goal.returns
returns c = of-each-note IsTaken is-taken
