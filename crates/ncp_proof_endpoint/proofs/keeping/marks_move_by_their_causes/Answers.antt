use Rattle.ncp_proof_endpoint.proofs.Kept.{keeps-asked, keeps-heard, keeps-opened, keeps-left, keeps-cls, keeps-recalled, keeps-returned, keeps-interrupts, keeps-sending, keeps-freed, keeps-messages, keeps-bits}
use Rattle.ncp_proof_endpoint.proofs.keeping.marks_move_by_their_causes.Goals as goal

pub returns-clause-asked : goal.returns-clause-asked
returns-clause-asked c = keeps-asked

pub returns-clause-heard : goal.returns-clause-heard
returns-clause-heard c = keeps-heard

pub returns-clause-opened : goal.returns-clause-opened
returns-clause-opened c = keeps-opened

pub returns-clause-left : goal.returns-clause-left
returns-clause-left c = keeps-left

pub returns-clause-cls : goal.returns-clause-cls
returns-clause-cls c = keeps-cls

pub returns-clause-recalled : goal.returns-clause-recalled
returns-clause-recalled c = keeps-recalled

pub returns-clause-returned : goal.returns-clause-returned
returns-clause-returned c = keeps-returned

pub returns-clause-interrupts : goal.returns-clause-interrupts
returns-clause-interrupts c = keeps-interrupts

pub returns-clause-sending : goal.returns-clause-sending
returns-clause-sending c = keeps-sending

pub returns-clause-freed : goal.returns-clause-freed
returns-clause-freed c = keeps-freed

pub returns-clause-messages : goal.returns-clause-messages
returns-clause-messages c = keeps-messages

pub returns-clause-bits : goal.returns-clause-bits
returns-clause-bits c = keeps-bits
