use Rattle.ncp_proof_pipe.proofs.Sending.{sender-did}
use Rattle.ncp_proof_pipe.proofs.Receiving.{receiver-did}
use Rattle.ncp_proof_pipe.proofs.ends.what_happens_at_ends.Goals as goal

pub returns-clause-sender : goal.returns-clause-sender
returns-clause-sender c pair what w sd o z = sender-did pair sd what w o z

pub returns-clause-receiver : goal.returns-clause-receiver
returns-clause-receiver c pair what s rd o z = receiver-did pair rd what s o z
