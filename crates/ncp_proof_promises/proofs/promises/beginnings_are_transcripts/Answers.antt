use Rattle.ncp_proof_promises.proofs.Beginnings.{begins}
use Rattle.ncp_proof_promises.proofs.promises.beginnings_are_transcripts.Goals as goal

pub returns : goal.returns
returns c = begins
