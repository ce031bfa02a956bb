use Rattle.ncp_proof_monitor.proofs.Spared.{one_kind, kinds_distinct}
use Rattle.ncp_proof_monitor.proofs.alarms.each_rule_is_of_one_kind.Goals as goal

pub returns-clause-one : goal.returns-clause-one
returns-clause-one c = one_kind

pub returns-clause-pairwise_distinct : goal.returns-clause-pairwise_distinct
returns-clause-pairwise_distinct c = kinds_distinct
