use Rattle.std.proofs.Common.{ap}
use Rattle.ncp_model.specs.Ends.{lowest}
use Rattle.ncp_model.specs.Rows.{outward, inward}
use Rattle.ncp_proof_machine.specs.Hosts.{all_empty}
use Rattle.ncp_proof_machine.specs.HostRuns.{with_text_out, meets, met_and_heard, meets_there, met_there}
use Rattle.ncp_proof_machine.proofs.HostsListed.{this-end, that-end, this-control}
use Rattle.ncp_proof_headline.proofs.headline.openings_and_texts_out_happen.Goals as goal
use Rattle.std.proofs.Common.{Option, List, ◌∙◌}
use Rattle.ncp_wire.specs.declared.command.Command.{Command}
use Rattle.std.specs.FinMap.{get}
use Rattle.std.specs.FinMap.Entries.{find}
use Rattle.ncp_model.specs.Pairs.{pair_cmp}
use Rattle.ncp_model.specs.Endpoint.{Endpoint}
use Rattle.ncp_model.specs.Ends.{hears_link, uses_link}
use Rattle.ncp_model.specs.Demux.{passes}
use Rattle.ncp_proof_endpoint.specs.Histories.{opens}
use Rattle.ncp_proof_machine.specs.Delivery.{Link}
use Rattle.ncp_slot.specs.Slot.{is_empty}
use Rattle.ncp_proof_machine.specs.Hosts.{TextOut, run}
use Rattle.ncp_proof_machine.proofs.HostsListed.{low_run, this-link, that-control}

pub returns-clause-stays_out : goal.returns-clause-stays_out
unfolding lowest all_empty
returns-clause-stays_out c = (ap (λ (l : Link TextOut). is_empty l.slot) (this-link with_text_out 2), ap (λ (l : Link TextOut). is_empty l.slot) (this-link with_text_out 2))

pub returns-clause-sender : goal.returns-clause-sender
unfolding lowest all_empty
returns-clause-sender c = (ap (λ (o : Option Endpoint). opens o (get (run met_and_heard).this.ends outward)) (this-end meets outward) ∙ ap (λ (o : Option Endpoint). opens (find pair_cmp outward (low_run meets).this.ends) o) (this-end met_and_heard outward), ap (λ (o : Option Endpoint). passes (hears_link 2) outward o) (this-end met_and_heard outward))

pub returns-clause-receiver : goal.returns-clause-receiver
unfolding lowest all_empty
returns-clause-receiver c = (ap (λ (o : Option Endpoint). opens o (get (run met_there).that.ends inward)) (that-end meets_there inward) ∙ ap (λ (o : Option Endpoint). opens (find pair_cmp inward (low_run meets_there).that.ends) o) (that-end met_there inward), ap (λ (o : Option Endpoint). passes (uses_link 2) inward o) (that-end met_there inward))

pub returns-clause-by_one_command : goal.returns-clause-by_one_command
unfolding lowest all_empty
returns-clause-by_one_command c = ap (λ (l : Link (List Command)). l.subnet) (that-control meets)

pub returns-clause-by_one_there : goal.returns-clause-by_one_there
unfolding lowest all_empty
returns-clause-by_one_there c = ap (λ (l : Link (List Command)). l.subnet) (this-control meets_there)
