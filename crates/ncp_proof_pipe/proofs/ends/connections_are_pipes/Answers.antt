use Rattle.ncp_proof_pipe.proofs.Sharing.{whole}
use Rattle.ncp_proof_pipe.proofs.ends.connections_are_pipes.Goals as goal

pub returns : goal.returns
returns c es pair m sd = let w = whole pair sd es m in (w.steps, w.fresh, w.run, w.of_users)
