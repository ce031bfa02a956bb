use Rattle.ncp_proof_promises.specs.Openings.{OpensUnderNoText}
use Rattle.ncp_proof_promises.proofs.Each.{of-each-note}
use Rattle.ncp_proof_promises.proofs.Opening.{opens-under-no-text}
use Rattle.ncp_proof_promises.proofs.promises.none_opens_while_its_link_has_a_text.Goals as goal

pub returns : goal.returns
returns c = of-each-note OpensUnderNoText opens-under-no-text
