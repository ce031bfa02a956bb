use Rattle.ncp_proof_machine.specs.Resets.{This, That}
use Rattle.ncp_proof_promises.proofs.examples.promises_are_of_both_hosts.Goals as goal

pub returns-clause-this_way : goal.returns-clause-this_way
returns-clause-this_way c ns w pair number s e = (e pair s).0

pub returns-clause-that_way : goal.returns-clause-that_way
returns-clause-that_way c ns w pair number s e = (e pair s).1

pub returns-clause-order_a : goal.returns-clause-order_a
returns-clause-order_a c ns w on e = e This on

pub returns-clause-order_b : goal.returns-clause-order_b
returns-clause-order_b c ns w on e = e That on

pub returns-clause-waits_a : goal.returns-clause-waits_a
returns-clause-waits_a c ns w e = e.0

pub returns-clause-waits_b : goal.returns-clause-waits_b
returns-clause-waits_b c ns w e = e.1
