use Rattle.ncp_proof_recovery.proofs.ManyPaying.{within-each}
use Rattle.ncp_proof_recovery.proofs.settling.what_happens_among_many_is_within_the_work.Goals as goal

pub returns : goal.returns
returns c = record { within = within-each }
