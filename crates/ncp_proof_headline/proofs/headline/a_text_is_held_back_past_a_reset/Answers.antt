use Rattle.std.proofs.Common.{ap}
use Rattle.ncp_model.specs.Ends.{lowest}
use Rattle.ncp_proof_endpoint.specs.Histories.{PairHistory}
use Rattle.ncp_proof_machine.specs.Resets.{ResetHost}
use Rattle.ncp_model.specs.Rows.{outward, inward}
use Rattle.ncp_proof_machine.specs.Hosts.{all_empty}
use Rattle.ncp_proof_machine.specs.HostRuns.{held_past_reset, up_after_held, opened_after_held}
use Rattle.ncp_proof_machine.proofs.HostsListed.{this-end, that-end, that-past, this-host, that-host, this-link}
use Rattle.ncp_proof_headline.proofs.headline.a_text_is_held_back_past_a_reset.Goals as goal

pub returns-clause-owed : goal.returns-clause-owed
unfolding lowest all_empty
returns-clause-owed c = ap (λ (h : ResetHost). h.phase) (this-host held_past_reset)

pub returns-clause-owed_and_awaited : goal.returns-clause-owed_and_awaited
unfolding lowest all_empty
returns-clause-owed_and_awaited c = ap (λ (h : ResetHost). h.phase) (that-host held_past_reset)

pub returns-clause-owed_after_the_text : goal.returns-clause-owed_after_the_text
unfolding lowest all_empty
returns-clause-owed_after_the_text c = this-link held_past_reset 2

pub returns-clause-dropped : goal.returns-clause-dropped
unfolding lowest all_empty
returns-clause-dropped c = ap (λ (h : ResetHost). h.phase) (this-host up_after_held)

pub returns-clause-dropped_there : goal.returns-clause-dropped_there
unfolding lowest all_empty
returns-clause-dropped_there c = ap (λ (h : ResetHost). h.phase) (that-host up_after_held)

pub returns-clause-dropped_text : goal.returns-clause-dropped_text
unfolding lowest all_empty
returns-clause-dropped_text c = ap (λ (p : PairHistory). p.got) (that-past up_after_held inward)

pub returns-clause-from_empty : goal.returns-clause-from_empty
unfolding lowest all_empty
returns-clause-from_empty c = this-end opened_after_held outward

pub returns-clause-anew_there : goal.returns-clause-anew_there
unfolding lowest all_empty
returns-clause-anew_there c = that-end opened_after_held inward

pub returns-clause-anew_got : goal.returns-clause-anew_got
unfolding lowest all_empty
returns-clause-anew_got c = ap (λ (p : PairHistory). p.got) (that-past opened_after_held inward)
