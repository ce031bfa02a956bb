use Rattle.ncp_proof_endpoint.proofs.Used.{gvb-takes}
use Rattle.ncp_proof_endpoint.proofs.conserved.returns_take_from_both_numbers.Goals as goal

pub returns-clause-messages_go_back : goal.returns-clause-messages_go_back
returns-clause-messages_go_back c = λ pair on messages bits x e to after. (gvb-takes pair on messages bits x e to after).0

pub returns-clause-bits_go_back : goal.returns-clause-bits_go_back
returns-clause-bits_go_back c = λ pair on messages bits x e to after. (gvb-takes pair on messages bits x e to after).1

pub returns-clause-made : goal.returns-clause-made
returns-clause-made c = λ pair on messages bits x e to after. (gvb-takes pair on messages bits x e to after).2
