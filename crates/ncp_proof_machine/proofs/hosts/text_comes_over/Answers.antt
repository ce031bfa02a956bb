use Rattle.std.proofs.Common.{ap}
use Rattle.ncp_model.specs.Ends.{lowest}
use Rattle.ncp_proof_endpoint.specs.Histories.{PairHistory}
use Rattle.ncp_model.specs.Rows.{outward, inward}
use Rattle.ncp_proof_machine.specs.Hosts.{all_empty}
use Rattle.ncp_proof_machine.specs.HostRuns.{with_text_out, got_and_taken}
use Rattle.ncp_proof_machine.proofs.HostsListed.{this-end, that-end, that-past, this-link, right}
use Rattle.ncp_proof_machine.proofs.hosts.text_comes_over.Goals as goal

pub returns-clause-out : goal.returns-clause-out
unfolding lowest all_empty
returns-clause-out c = this-end with_text_out outward

pub returns-clause-out_there : goal.returns-clause-out_there
unfolding lowest all_empty
returns-clause-out_there c = that-end with_text_out inward

pub returns-clause-out_on_link : goal.returns-clause-out_on_link
unfolding lowest all_empty
returns-clause-out_on_link c = this-link with_text_out 2

pub returns-clause-taken : goal.returns-clause-taken
unfolding lowest all_empty
returns-clause-taken c = this-end got_and_taken outward

pub returns-clause-taken_there : goal.returns-clause-taken_there
unfolding lowest all_empty
returns-clause-taken_there c = that-end got_and_taken inward

pub returns-clause-taken_bits : goal.returns-clause-taken_bits
unfolding lowest all_empty
returns-clause-taken_bits c = ap (λ (p : PairHistory). p.taken) (that-past got_and_taken inward)

pub returns-clause-taken_and_answered : goal.returns-clause-taken_and_answered
unfolding lowest all_empty
returns-clause-taken_and_answered c = this-link got_and_taken 2

pub returns-clause-taken_safely : goal.returns-clause-taken_safely
unfolding lowest all_empty
returns-clause-taken_safely c = right got_and_taken
