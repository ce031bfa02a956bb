use Rattle.ncp_proof_quiescence.proofs.Paying.{within}
use Rattle.ncp_proof_quiescence.proofs.settling.what_happens_by_itself_is_within_the_work.Goals as goal

pub returns : goal.returns
returns c = record { within = within }
