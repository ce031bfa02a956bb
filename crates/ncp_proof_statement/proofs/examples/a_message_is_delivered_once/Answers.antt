use Rattle.ncp_proof_statement.proofs.Going.{a-message-goes, none-comes-twice}
use Rattle.ncp_proof_statement.proofs.examples.a_message_is_delivered_once.Goals as goal

pub returns-clause-once : goal.returns-clause-once
returns-clause-once c = a-message-goes

pub returns-clause-twice : goal.returns-clause-twice
returns-clause-twice c = none-comes-twice
