use Rattle.ncp_proof_progress.proofs.PeerWork.{cut-work, sends-work, free-work, settle-work, falls-work}
use Rattle.ncp_proof_progress.proofs.work.what_goes_out_pays.Goals as goal

pub returns-clause-text : goal.returns-clause-text
returns-clause-text c = cut-work

pub returns-clause-commands : goal.returns-clause-commands
returns-clause-commands c = sends-work

pub returns-clause-answered : goal.returns-clause-answered
returns-clause-answered c = free-work

pub returns-clause-settled : goal.returns-clause-settled
returns-clause-settled c = settle-work

pub returns-clause-fallen : goal.returns-clause-fallen
returns-clause-fallen c = falls-work
