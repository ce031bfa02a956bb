use Rattle.ncp_proof_runs.proofs.InRuns.{from-front}
use Rattle.ncp_proof_runs.proofs.peers.a_beginning_of_a_run_is_a_run.Goals as goal

pub returns : goal.returns
returns c = from-front
