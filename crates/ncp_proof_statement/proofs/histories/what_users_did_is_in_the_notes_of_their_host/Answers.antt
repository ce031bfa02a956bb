use Rattle.ncp_proof_statement.proofs.Using.{taken-by, given-by, allowed-by}
use Rattle.ncp_proof_statement.proofs.histories.what_users_did_is_in_the_notes_of_their_host.Goals as goal

pub returns-clause-taken : goal.returns-clause-taken
returns-clause-taken c ns w side pair t = taken-by pair side ns w t

pub returns-clause-given : goal.returns-clause-given
returns-clause-given c ns w side pair t = given-by pair side ns w t

pub returns-clause-allowed : goal.returns-clause-allowed
returns-clause-allowed c ns w side pair t = allowed-by pair side ns w t
