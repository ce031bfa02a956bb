use Rattle.std.proofs.Common.{refl}
use Rattle.ncp_proof_follow_tables.proofs.texts.texts_are_opened_so.Goals as goal

pub returns-clause-said : goal.returns-clause-said
returns-clause-said c = refl

pub returns-clause-other : goal.returns-clause-other
returns-clause-other c = refl

pub returns-clause-elsewhere : goal.returns-clause-elsewhere
returns-clause-elsewhere c = refl

pub returns-clause-unsaid : goal.returns-clause-unsaid
returns-clause-unsaid c = refl

pub returns-clause-beyond : goal.returns-clause-beyond
returns-clause-beyond c = refl

pub returns-clause-over : goal.returns-clause-over
returns-clause-over c = refl
