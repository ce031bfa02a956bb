use Rattle.ncp_host.proofs.Apart.{hosts_distinct}
use Rattle.ncp_host.proofs.Linked.{same_hosts}
use Rattle.ncp_host.proofs.laws.saved_distinguishes.Goals as goal

pub returns-clause-alike : goal.returns-clause-alike
returns-clause-alike c = hosts_distinct

pub returns-clause-same : goal.returns-clause-same
returns-clause-same c = same_hosts
