use Rattle.std.proofs.Common.{refl}
use Rattle.ncp_proof_recovery.proofs.rows.what_is_quiet.Goals as goal

pub returns-clause-moves : goal.returns-clause-moves
returns-clause-moves c = (refl, (refl, (refl, tt)))

pub returns-clause-call : goal.returns-clause-call
returns-clause-call c = λ q. cc q.0

pub returns-clause-reset : goal.returns-clause-reset
returns-clause-reset c = λ q. cc q.0

pub returns-clause-falls : goal.returns-clause-falls
returns-clause-falls c = λ q. cc q.1.0
