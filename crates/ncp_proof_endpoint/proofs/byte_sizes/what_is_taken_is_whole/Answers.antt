use Rattle.ncp_proof_endpoint.proofs.Bytes.{most-taken, whole-taken}
use Rattle.ncp_proof_endpoint.proofs.byte_sizes.what_is_taken_is_whole.Goals as goal

pub returns-clause-whole : goal.returns-clause-whole
returns-clause-whole c = whole-taken

pub returns-clause-as_many : goal.returns-clause-as_many
returns-clause-as_many c = most-taken
