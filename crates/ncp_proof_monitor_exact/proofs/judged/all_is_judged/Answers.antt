use Rattle.ncp_proof_monitor_exact.proofs.Lacks.{all_is_judged}
use Rattle.ncp_proof_monitor_exact.proofs.judged.all_is_judged.Goals as goal

pub returns : goal.returns
returns c = all_is_judged
