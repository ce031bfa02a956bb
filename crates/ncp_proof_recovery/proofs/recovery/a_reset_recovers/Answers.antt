use Rattle.ncp_proof_recovery.proofs.Recovered.{ever-recovered}
use Rattle.ncp_proof_recovery.proofs.Fallen.{fallen-settled, fallen-recovered}
use Rattle.ncp_proof_recovery.proofs.recovery.a_reset_recovers.Goals as goal

pub returns-clause-ever : goal.returns-clause-ever
returns-clause-ever c = ever-recovered

pub returns-clause-fallen : goal.returns-clause-fallen
returns-clause-fallen c = (fallen-settled, fallen-recovered)
