use Rattle.ncp_proof_progress.proofs.PeerWork.{comes-work, fault-work, text-work, call-work, echo-work, reset-work}
use Rattle.ncp_proof_progress.proofs.work.what_comes_is_bounded.Goals as goal

pub returns-clause-command : goal.returns-clause-command
returns-clause-command c = comes-work

pub returns-clause-fault : goal.returns-clause-fault
returns-clause-fault c = fault-work

pub returns-clause-text : goal.returns-clause-text
returns-clause-text c = text-work

pub returns-clause-call : goal.returns-clause-call
returns-clause-call c = call-work

pub returns-clause-echo : goal.returns-clause-echo
returns-clause-echo c = echo-work

pub returns-clause-reset : goal.returns-clause-reset
returns-clause-reset c = reset-work
