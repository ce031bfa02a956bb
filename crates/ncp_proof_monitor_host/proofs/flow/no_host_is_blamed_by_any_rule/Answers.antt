use Rattle.ncp_proof_monitor_host.proofs.FlowFile.{nobody_blamed}
use Rattle.ncp_proof_monitor_host.proofs.flow.no_host_is_blamed_by_any_rule.Goals as goal

pub returns : goal.returns
returns c = nobody_blamed
