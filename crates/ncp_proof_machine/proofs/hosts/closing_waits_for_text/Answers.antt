use Rattle.std.proofs.Common.{ap}
use Rattle.ncp_model.specs.Ends.{lowest}
use Rattle.ncp_proof_endpoint.specs.Histories.{PairHistory}
use Rattle.ncp_model.specs.Rows.{outward, inward}
use Rattle.ncp_proof_machine.specs.Hosts.{all_empty}
use Rattle.ncp_proof_machine.specs.HostRuns.{closed_by_receiver, over_by_receiver, opened_again, closed_by_sender, over_by_sender}
use Rattle.ncp_proof_machine.proofs.HostsListed.{this-end, that-end, that-past, right}
use Rattle.ncp_proof_machine.proofs.hosts.closing_waits_for_text.Goals as goal

pub returns-clause-late : goal.returns-clause-late
unfolding lowest all_empty
returns-clause-late c = this-end closed_by_receiver outward

pub returns-clause-late_there : goal.returns-clause-late_there
unfolding lowest all_empty
returns-clause-late_there c = that-end closed_by_receiver inward

pub returns-clause-late_nothing_got : goal.returns-clause-late_nothing_got
unfolding lowest all_empty
returns-clause-late_nothing_got c = ap (λ (p : PairHistory). p.got) (that-past closed_by_receiver inward)

pub returns-clause-over : goal.returns-clause-over
unfolding lowest all_empty
returns-clause-over c = this-end over_by_receiver outward

pub returns-clause-over_there : goal.returns-clause-over_there
unfolding lowest all_empty
returns-clause-over_there c = that-end over_by_receiver inward

pub returns-clause-over_safely : goal.returns-clause-over_safely
unfolding lowest all_empty
returns-clause-over_safely c = right over_by_receiver

pub returns-clause-again : goal.returns-clause-again
unfolding lowest all_empty
returns-clause-again c = this-end opened_again outward

pub returns-clause-again_there : goal.returns-clause-again_there
unfolding lowest all_empty
returns-clause-again_there c = that-end opened_again inward

pub returns-clause-got : goal.returns-clause-got
unfolding lowest all_empty
returns-clause-got c = this-end closed_by_sender outward

pub returns-clause-got_there : goal.returns-clause-got_there
unfolding lowest all_empty
returns-clause-got_there c = that-end closed_by_sender inward

pub returns-clause-over_too : goal.returns-clause-over_too
unfolding lowest all_empty
returns-clause-over_too c = this-end over_by_sender outward

pub returns-clause-over_too_there : goal.returns-clause-over_too_there
unfolding lowest all_empty
returns-clause-over_too_there c = that-end over_by_sender inward

pub returns-clause-over_too_taken : goal.returns-clause-over_too_taken
unfolding lowest all_empty
returns-clause-over_too_taken c = ap (λ (p : PairHistory). p.taken) (that-past over_by_sender inward)
