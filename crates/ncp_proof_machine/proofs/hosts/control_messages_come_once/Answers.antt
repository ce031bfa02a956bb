use Rattle.std.proofs.Common.{ap}
use Rattle.ncp_model.specs.Ends.{lowest}
use Rattle.ncp_proof_machine.specs.Resets.{ResetHost}
use Rattle.ncp_model.specs.Rows.{inward}
use Rattle.ncp_proof_machine.specs.Hosts.{all_empty}
use Rattle.ncp_proof_machine.specs.HostRuns.{request_lost, request_again, request_held, request_woken}
use Rattle.ncp_proof_machine.proofs.HostsListed.{that-end, that-host, this-control}
use Rattle.ncp_proof_machine.proofs.hosts.control_messages_come_once.Goals as goal

pub returns-clause-lost : goal.returns-clause-lost
unfolding lowest all_empty
returns-clause-lost c = this-control request_lost

pub returns-clause-again : goal.returns-clause-again
unfolding lowest all_empty
returns-clause-again c = this-control request_again

pub returns-clause-again_heard : goal.returns-clause-again_heard
unfolding lowest all_empty
returns-clause-again_heard c = that-end request_again inward

pub returns-clause-again_once : goal.returns-clause-again_once
unfolding lowest all_empty
returns-clause-again_once c = ap (λ (h : ResetHost). h.came) (that-host request_again)

pub returns-clause-held : goal.returns-clause-held
unfolding lowest all_empty
returns-clause-held c = this-control request_held

pub returns-clause-held_unheard : goal.returns-clause-held_unheard
unfolding lowest all_empty
returns-clause-held_unheard c = that-end request_held inward

pub returns-clause-woken : goal.returns-clause-woken
unfolding lowest all_empty
returns-clause-woken c = this-control request_woken

pub returns-clause-woken_heard : goal.returns-clause-woken_heard
unfolding lowest all_empty
returns-clause-woken_heard c = that-end request_woken inward

pub returns-clause-woken_once : goal.returns-clause-woken_once
unfolding lowest all_empty
returns-clause-woken_once c = ap (λ (h : ResetHost). h.came) (that-host request_woken)
