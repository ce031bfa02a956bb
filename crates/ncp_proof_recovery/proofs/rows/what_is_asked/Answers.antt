use Rattle.std.proofs.Common.{refl}
use Rattle.ncp_proof_recovery.proofs.rows.what_is_asked.Goals as goal

pub returns-clause-reset : goal.returns-clause-reset
returns-clause-reset c = λ q. cc q.0

pub returns-clause-echo : goal.returns-clause-echo
returns-clause-echo c = λ q. cc q.1.0

pub returns-clause-refused : goal.returns-clause-refused
returns-clause-refused c = (refl, tt)

pub returns-clause-wake : goal.returns-clause-wake
returns-clause-wake c = (refl, (refl, (refl, tt)))
