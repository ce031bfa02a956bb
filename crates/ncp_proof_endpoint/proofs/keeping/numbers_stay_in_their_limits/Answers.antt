use Rattle.ncp_proof_endpoint.proofs.Opens.{limit-messages, limit-bits, limit-interrupts, limit-room}
use Rattle.ncp_proof_endpoint.proofs.keeping.numbers_stay_in_their_limits.Goals as goal

pub returns-clause-messages : goal.returns-clause-messages
returns-clause-messages c = limit-messages

pub returns-clause-bits : goal.returns-clause-bits
returns-clause-bits c = limit-bits

pub returns-clause-interrupts : goal.returns-clause-interrupts
returns-clause-interrupts c = limit-interrupts

pub returns-clause-room : goal.returns-clause-room
returns-clause-room c = limit-room
