use Rattle.ncp_proof_machine.proofs.Watches.{watches_agree, other_watches_stay}
use Rattle.ncp_proof_machine.proofs.hosts.histories_only_watch_hosts.Goals as goal

pub returns-clause-steps : goal.returns-clause-steps
returns-clause-steps c = watches_agree

pub returns-clause-others : goal.returns-clause-others
returns-clause-others c = other_watches_stay
