use Rattle.ncp_proof_runs.proofs.Begun.{is_run}
use Rattle.ncp_proof_runs.proofs.peers.a_transcript_is_from_its_beginning.Goals as goal

pub returns-clause-run : goal.returns-clause-run
returns-clause-run c = is_run

pub returns-clause-host : goal.returns-clause-host
returns-clause-host c all h t = t.state
