use Rattle.std.proofs.Common.{refl}
use Rattle.ncp_proof_recovery.proofs.settling.messages_of_many_move_by_themselves.Goals as goal

pub returns-clause-out : goal.returns-clause-out
returns-clause-out c = λ host message m. tt

pub returns-clause-lost : goal.returns-clause-lost
returns-clause-lost c = λ from to link m own. own

pub returns-clause-dead : goal.returns-clause-dead
returns-clause-dead c = λ from to link m own. own

pub returns-clause-reset : goal.returns-clause-reset
returns-clause-reset c = λ host peer m own. own

pub returns-clause-nothing : goal.returns-clause-nothing
returns-clause-nothing c = λ event m own. own

pub returns-clause-says : goal.returns-clause-says
returns-clause-says c = λ event. refl
