use Rattle.ncp_proof_progress.proofs.ResetsWait.{ever-wait}
use Rattle.ncp_proof_progress.proofs.idle.resets_wait_only_for_data_links.Goals as goal

pub returns : goal.returns
returns c = ever-wait
