use Rattle.ncp_proof_promises.proofs.First.{in-vain, goes-first}
use Rattle.ncp_proof_promises.proofs.promises.what_goes_out_is_first_of_each_host.Goals as goal

pub returns-clause-nothing : goal.returns-clause-nothing
returns-clause-nothing c = in-vain c.each_host_is_by_itself.ensures

pub returns-clause-out : goal.returns-clause-out
returns-clause-out c = goes-first c.each_host_is_by_itself.ensures
