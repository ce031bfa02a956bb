use Rattle.ncp_transcript_two.specs.Seen.{seen}
use Rattle.ncp_proof_quiescence.proofs.Finished.{ends-finished, not-resetting, not-full}
use Rattle.ncp_proof_quiescence.proofs.settled.settled_hosts_refuse_nothing_as_busy.Goals as goal

pub returns-clause-reset : goal.returns-clause-reset
returns-clause-reset c ns w t q = let f = ends-finished ns w t q in (not-resetting (seen w).this f.this, not-resetting (seen w).that f.that)

pub returns-clause-queue : goal.returns-clause-queue
returns-clause-queue c ns w t q = let f = ends-finished ns w t q in (not-full (seen w).this f.this, not-full (seen w).that f.that)
