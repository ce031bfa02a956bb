use Rattle.ncp_proof_quiescence.proofs.Running.{transcript-within, transcript-paid, more-paid}
use Rattle.ncp_proof_quiescence.proofs.notes.moves_are_bounded.Goals as goal

pub returns-clause-within : goal.returns-clause-within
returns-clause-within c = transcript-within

pub returns-clause-work : goal.returns-clause-work
returns-clause-work c = transcript-paid

pub returns-clause-more : goal.returns-clause-more
returns-clause-more c = more-paid
