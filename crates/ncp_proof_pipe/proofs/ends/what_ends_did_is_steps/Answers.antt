use Rattle.ncp_proof_pipe.proofs.Steps.{sender-steps, receiver-steps}
use Rattle.ncp_proof_pipe.proofs.ends.what_ends_did_is_steps.Goals as goal

pub returns-clause-sender : goal.returns-clause-sender
returns-clause-sender c what s z r given now out fresh users f d e = sender-steps what s z r given now out fresh f users d e

pub returns-clause-receiver : goal.returns-clause-receiver
returns-clause-receiver c what s r z given out fresh users f d e = receiver-steps what s r z given out fresh f users d e
