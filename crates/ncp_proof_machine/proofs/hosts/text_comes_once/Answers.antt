use Rattle.std.proofs.Common.{ap}
use Rattle.ncp_model.specs.Ends.{lowest}
use Rattle.ncp_proof_endpoint.specs.Histories.{PairHistory}
use Rattle.ncp_model.specs.Rows.{outward, inward}
use Rattle.ncp_proof_machine.specs.Hosts.{all_empty}
use Rattle.ncp_proof_machine.specs.HostRuns.{lost_twice, held_back, woken_again}
use Rattle.ncp_proof_machine.proofs.HostsListed.{this-end, that-end, that-past, this-link}
use Rattle.ncp_proof_machine.proofs.hosts.text_comes_once.Goals as goal

pub returns-clause-lost_twice : goal.returns-clause-lost_twice
unfolding lowest all_empty
returns-clause-lost_twice c = this-end lost_twice outward

pub returns-clause-lost_twice_there : goal.returns-clause-lost_twice_there
unfolding lowest all_empty
returns-clause-lost_twice_there c = that-end lost_twice inward

pub returns-clause-lost_twice_got : goal.returns-clause-lost_twice_got
unfolding lowest all_empty
returns-clause-lost_twice_got c = ap (λ (p : PairHistory). p.got) (that-past lost_twice inward)

pub returns-clause-held : goal.returns-clause-held
unfolding lowest all_empty
returns-clause-held c = this-link held_back 2

pub returns-clause-held_at_sender : goal.returns-clause-held_at_sender
unfolding lowest all_empty
returns-clause-held_at_sender c = this-end held_back outward

pub returns-clause-woken : goal.returns-clause-woken
unfolding lowest all_empty
returns-clause-woken c = this-link woken_again 2

pub returns-clause-woken_got : goal.returns-clause-woken_got
unfolding lowest all_empty
returns-clause-woken_got c = ap (λ (p : PairHistory). p.got) (that-past woken_again inward)
