use Rattle.ncp_proof_endpoint.proofs.Used.{cut-takes}
use Rattle.ncp_proof_endpoint.proofs.conserved.texts_take_what_they_use.Goals as goal

pub returns-clause-one_message_out : goal.returns-clause-one_message_out
returns-clause-one_message_out c = λ pair of_size text x e to after. (cut-takes pair of_size text x e to after).0

pub returns-clause-its_bits_out : goal.returns-clause-its_bits_out
returns-clause-its_bits_out c = λ pair of_size text x e to after. (cut-takes pair of_size text x e to after).1

pub returns-clause-goes_out : goal.returns-clause-goes_out
returns-clause-goes_out c = λ pair of_size text x e to after. (cut-takes pair of_size text x e to after).2

pub returns-clause-busy : goal.returns-clause-busy
returns-clause-busy c = λ pair of_size text x e to after. (cut-takes pair of_size text x e to after).3
