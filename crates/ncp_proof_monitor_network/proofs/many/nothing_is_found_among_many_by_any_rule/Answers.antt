use Rattle.ncp_proof_monitor_network.proofs.ManyWhole.{none_among}
use Rattle.ncp_proof_monitor_network.proofs.many.nothing_is_found_among_many_by_any_rule.Goals as goal

pub returns : goal.returns
returns c = none_among
