use Rattle.ncp_proof_runs.proofs.CountsTold.{counts-noted}
use Rattle.ncp_proof_runs.proofs.EchoNoted.{counts-said}
use Rattle.ncp_proof_runs.proofs.echoes.counts_are_what_their_notes_say.Goals as goal

pub returns-clause-counts : goal.returns-clause-counts
returns-clause-counts c = counts-noted

pub returns-clause-noted : goal.returns-clause-noted
returns-clause-noted c = λ n counts me ns before after from. counts-said me ns before after n counts from
