use Rattle.std.proofs.Common.{refl}
use Rattle.ncp_proof_quiescence.proofs.rows.notes_say_nothing_so.Goals as goal

pub returns-clause-out : goal.returns-clause-out
returns-clause-out c = λ side. refl

pub returns-clause-nothing : goal.returns-clause-nothing
returns-clause-nothing c = λ side link wanted. refl

pub returns-clause-lost : goal.returns-clause-lost
returns-clause-lost c = λ side link. refl

pub returns-clause-message : goal.returns-clause-message
returns-clause-message c = λ side message. refl
