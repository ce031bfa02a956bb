use Rattle.ncp_proof_endpoint.proofs.Bytes.{most-sent, front-sent}
use Rattle.ncp_proof_endpoint.proofs.byte_sizes.what_goes_out_is_whole.Goals as goal

pub returns-clause-as_many : goal.returns-clause-as_many
returns-clause-as_many c = most-sent

pub returns-clause-of_its_size : goal.returns-clause-of_its_size
returns-clause-of_its_size c = λ pair before of_size text h. (front-sent pair before of_size text h).0

pub returns-clause-front : goal.returns-clause-front
returns-clause-front c = λ pair before of_size text h. (front-sent pair before of_size text h).1
