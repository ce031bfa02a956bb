use Rattle.ncp_proof_runs.proofs.First.{out-first, none-ready}
use Rattle.ncp_proof_runs.proofs.links.what_goes_out_is_first.Goals as goal

pub returns-clause-out : goal.returns-clause-out
returns-clause-out c message me ns before after from = out-first me ns before after message from

pub returns-clause-nothing : goal.returns-clause-nothing
returns-clause-nothing c = none-ready
