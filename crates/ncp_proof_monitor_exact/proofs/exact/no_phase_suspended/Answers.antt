use Rattle.ncp_proof_monitor_exact.proofs.Rests.{no_phase_suspended}
use Rattle.ncp_proof_monitor_exact.proofs.exact.no_phase_suspended.Goals as goal

pub returns : goal.returns
returns c = no_phase_suspended
