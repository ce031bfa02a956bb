use Rattle.std.proofs.Common.{ap}
use Rattle.ncp_model.specs.Ends.{lowest}
use Rattle.ncp_proof_machine.specs.Resets.{ResetHost}
use Rattle.ncp_model.specs.Rows.{outward, inward}
use Rattle.ncp_proof_machine.specs.Hosts.{all_empty}
use Rattle.ncp_proof_machine.specs.HostRuns.{both_interrupt}
use Rattle.ncp_proof_machine.proofs.HostsListed.{this-end, that-end, this-host, that-host}
use Rattle.ncp_proof_machine.proofs.hosts.interrupts_are_counted.Goals as goal

pub returns-clause-sender : goal.returns-clause-sender
unfolding lowest all_empty
returns-clause-sender c = this-end both_interrupt outward

pub returns-clause-receiver : goal.returns-clause-receiver
unfolding lowest all_empty
returns-clause-receiver c = that-end both_interrupt inward

pub returns-clause-came_there : goal.returns-clause-came_there
unfolding lowest all_empty
returns-clause-came_there c = ap (λ (h : ResetHost). h.came) (that-host both_interrupt)

pub returns-clause-came : goal.returns-clause-came
unfolding lowest all_empty
returns-clause-came c = ap (λ (h : ResetHost). h.came) (this-host both_interrupt)
