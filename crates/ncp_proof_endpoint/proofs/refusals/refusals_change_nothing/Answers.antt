use Rattle.ncp_proof_endpoint.proofs.Refused.{refused-end, refused-made}
use Rattle.ncp_proof_endpoint.proofs.refusals.refusals_change_nothing.Goals as goal

pub returns-clause-end : goal.returns-clause-end
returns-clause-end c = refused-end

pub returns-clause-made : goal.returns-clause-made
returns-clause-made c = refused-made
