use Rattle.std.proofs.Common.{ap}
use Rattle.ncp_model.specs.Ends.{lowest}
use Rattle.ncp_proof_machine.specs.Resets.{ResetHost}
use Rattle.ncp_model.specs.Rows.{outward, inward}
use Rattle.ncp_proof_machine.specs.Hosts.{all_empty}
use Rattle.ncp_proof_machine.specs.HostRuns.{other_outward, other_inward, opens_another, reset_under_other_text}
use Rattle.ncp_proof_machine.proofs.HostsListed.{this-end, that-end, this-host, this-link}
use Rattle.ncp_proof_machine.proofs.hosts.connections_open_beside_each_other.Goals as goal

pub returns-clause-beside : goal.returns-clause-beside
unfolding lowest all_empty
returns-clause-beside c = this-end opens_another outward

pub returns-clause-beside_there : goal.returns-clause-beside_there
unfolding lowest all_empty
returns-clause-beside_there c = that-end opens_another inward

pub returns-clause-beside_other : goal.returns-clause-beside_other
unfolding lowest all_empty
returns-clause-beside_other c = this-end opens_another other_outward

pub returns-clause-beside_other_there : goal.returns-clause-beside_other_there
unfolding lowest all_empty
returns-clause-beside_other_there c = that-end opens_another other_inward

pub returns-clause-waits : goal.returns-clause-waits
unfolding lowest all_empty
returns-clause-waits c = ap (λ (h : ResetHost). h.phase) (this-host reset_under_other_text)

pub returns-clause-waits_for_none_there : goal.returns-clause-waits_for_none_there
unfolding lowest all_empty
returns-clause-waits_for_none_there c = this-link reset_under_other_text 2

pub returns-clause-waits_for_text : goal.returns-clause-waits_for_text
unfolding lowest all_empty
returns-clause-waits_for_text c = this-link reset_under_other_text 3
