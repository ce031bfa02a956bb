use Rattle.ncp_proof_statement.proofs.Filling.{in-world}
use Rattle.ncp_proof_statement.proofs.any_subnet.any_honest_subnet_is_that_of_a_world.Goals as goal

pub returns : goal.returns
returns c = in-world
