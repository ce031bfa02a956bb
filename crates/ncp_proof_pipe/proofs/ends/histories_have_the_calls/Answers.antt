use Rattle.ncp_proof_pipe.proofs.CallsKept.{calls-known}
use Rattle.ncp_proof_pipe.proofs.ends.histories_have_the_calls.Goals as goal

pub returns : goal.returns
returns c es pair sd = calls-known pair sd es
