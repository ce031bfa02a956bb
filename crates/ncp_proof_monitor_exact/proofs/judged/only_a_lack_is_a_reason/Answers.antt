use Rattle.ncp_proof_monitor_exact.proofs.Lacks.{only_lacks}
use Rattle.ncp_proof_monitor_exact.proofs.judged.only_a_lack_is_a_reason.Goals as goal

pub returns : goal.returns
returns c = only_lacks
