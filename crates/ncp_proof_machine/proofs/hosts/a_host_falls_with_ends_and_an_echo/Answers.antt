use Rattle.std.proofs.Common.{ap}
use Rattle.ncp_model.specs.Ends.{lowest}
use Rattle.ncp_proof_machine.specs.Resets.{ResetHost}
use Rattle.ncp_model.specs.Rows.{outward, inward}
use Rattle.ncp_proof_machine.specs.Hosts.{all_empty}
use Rattle.ncp_proof_machine.specs.HostRuns.{open_with_echo, fallen}
use Rattle.ncp_proof_machine.proofs.HostsListed.{this-end, that-end, this-host, this-echoes}
use Rattle.ncp_proof_machine.proofs.hosts.a_host_falls_with_ends_and_an_echo.Goals as goal

pub returns-clause-open : goal.returns-clause-open
unfolding lowest all_empty
returns-clause-open c = this-end open_with_echo outward

pub returns-clause-open_awaits : goal.returns-clause-open_awaits
unfolding lowest all_empty
returns-clause-open_awaits c = this-echoes open_with_echo

pub returns-clause-open_waits : goal.returns-clause-open_waits
unfolding lowest all_empty
returns-clause-open_waits c = ap (λ (h : ResetHost). h.phase) (this-host open_with_echo)

pub returns-clause-fallen : goal.returns-clause-fallen
unfolding lowest all_empty
returns-clause-fallen c = this-end fallen outward

pub returns-clause-fallen_echo : goal.returns-clause-fallen_echo
unfolding lowest all_empty
returns-clause-fallen_echo c = this-echoes fallen

pub returns-clause-fallen_phase : goal.returns-clause-fallen_phase
unfolding lowest all_empty
returns-clause-fallen_phase c = ap (λ (h : ResetHost). h.phase) (this-host fallen)

pub returns-clause-fallen_made : goal.returns-clause-fallen_made
unfolding lowest all_empty
returns-clause-fallen_made c = ap (λ (h : ResetHost). h.made) (this-host fallen)

pub returns-clause-fallen_unnoticed : goal.returns-clause-fallen_unnoticed
unfolding lowest all_empty
returns-clause-fallen_unnoticed c = that-end fallen inward
