use Rattle.std.proofs.Common.{ap}
use Rattle.ncp_model.specs.Ends.{lowest}
use Rattle.ncp_proof_endpoint.specs.Histories.{PairHistory}
use Rattle.ncp_proof_machine.specs.Resets.{ResetHost}
use Rattle.ncp_model.specs.Rows.{outward, inward}
use Rattle.ncp_proof_machine.specs.Hosts.{all_empty}
use Rattle.ncp_proof_machine.specs.HostRuns.{both_reset, reset_under_text, reset_over, asks_again}
use Rattle.ncp_proof_machine.proofs.HostsListed.{this-end, that-end, that-past, this-host, that-host, right}
use Rattle.ncp_proof_machine.proofs.hosts.resets_leave_no_ends.Goals as goal

pub returns-clause-both : goal.returns-clause-both
unfolding lowest all_empty
returns-clause-both c = ap (λ (h : ResetHost). h.phase) (this-host both_reset)

pub returns-clause-both_there : goal.returns-clause-both_there
unfolding lowest all_empty
returns-clause-both_there c = ap (λ (h : ResetHost). h.phase) (that-host both_reset)

pub returns-clause-both_no_end : goal.returns-clause-both_no_end
unfolding lowest all_empty
returns-clause-both_no_end c = this-end both_reset outward

pub returns-clause-both_no_end_there : goal.returns-clause-both_no_end_there
unfolding lowest all_empty
returns-clause-both_no_end_there c = that-end both_reset inward

pub returns-clause-waits : goal.returns-clause-waits
unfolding lowest all_empty
returns-clause-waits c = ap (λ (h : ResetHost). h.phase) (this-host reset_under_text)

pub returns-clause-waits_there : goal.returns-clause-waits_there
unfolding lowest all_empty
returns-clause-waits_there c = ap (λ (h : ResetHost). h.phase) (that-host reset_under_text)

pub returns-clause-waits_no_end : goal.returns-clause-waits_no_end
unfolding lowest all_empty
returns-clause-waits_no_end c = this-end reset_under_text outward

pub returns-clause-waits_no_end_there : goal.returns-clause-waits_no_end_there
unfolding lowest all_empty
returns-clause-waits_no_end_there c = that-end reset_under_text inward

pub returns-clause-waits_nothing_got : goal.returns-clause-waits_nothing_got
unfolding lowest all_empty
returns-clause-waits_nothing_got c = ap (λ (p : PairHistory). p.got) (that-past reset_under_text inward)

pub returns-clause-up : goal.returns-clause-up
unfolding lowest all_empty
returns-clause-up c = ap (λ (h : ResetHost). h.phase) (this-host reset_over)

pub returns-clause-up_there : goal.returns-clause-up_there
unfolding lowest all_empty
returns-clause-up_there c = ap (λ (h : ResetHost). h.phase) (that-host reset_over)

pub returns-clause-again : goal.returns-clause-again
unfolding lowest all_empty
returns-clause-again c = that-end asks_again inward

pub returns-clause-again_safely : goal.returns-clause-again_safely
unfolding lowest all_empty
returns-clause-again_safely c = right asks_again
