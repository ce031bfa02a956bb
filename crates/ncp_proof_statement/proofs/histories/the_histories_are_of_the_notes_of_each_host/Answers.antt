use Rattle.ncp_proof_statement.proofs.Walk.{here, there}
use Rattle.ncp_proof_statement.proofs.histories.the_histories_are_of_the_notes_of_each_host.Goals as goal

pub returns-clause-here : goal.returns-clause-here
returns-clause-here c ns w pair t = here ns w t pair

pub returns-clause-there : goal.returns-clause-there
returns-clause-there c ns w pair t = there ns w t pair
