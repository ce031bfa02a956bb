use Rattle.ncp_proof_statement.proofs.Back.{of-world, to-world}
use Rattle.ncp_proof_statement.proofs.any_subnet.hosts_over_any_honest_subnet_are_those_of_a_world.Goals as goal

pub returns : goal.returns
returns c a b ns = (λ t. to-world a b ns (c.any_honest_subnet_is_that_of_a_world.ensures a b ns t), λ k. of-world a b ns c.messages_are_delivered.ensures k)
