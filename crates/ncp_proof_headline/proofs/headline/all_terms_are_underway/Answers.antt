use Rattle.std.proofs.Common.{List, Option, ap, ◌∙◌}
use Rattle.ncp_wire.specs.declared.command.Command.{Command}
use Rattle.ncp_model.specs.Endpoint.{Endpoint, or_new, is_open}
use Rattle.ncp_model.specs.Amounts.{granted, returned, back}
use Rattle.ncp_model.specs.Ends.{lowest}
use Rattle.ncp_proof_endpoint.specs.Histories.{PairHistory}
use Rattle.ncp_proof_machine.specs.Delivery.{Link}
use Rattle.ncp_proof_machine.specs.Resets.{ResetHost, commands_underway}
use Rattle.ncp_model.specs.Rows.{outward, inward}
use Rattle.ncp_proof_machine.specs.Hosts.{TextOut, all_empty, run}
use Rattle.ncp_proof_headline.specs.Headline.{commands_there, commands_back, total_on, message_not_come, how_many_texts}
use Rattle.ncp_proof_machine.specs.HostRuns.{calls_back_under_text, sender_cleared}
use Rattle.ncp_proof_machine.proofs.HostsListed.{low_run, this-end, that-end, this-past, that-past, this-host, that-host, this-control, that-control, this-link}
use Rattle.ncp_proof_headline.proofs.headline.all_terms_are_underway.Goals as goal

pub returns-clause-open : goal.returns-clause-open
unfolding lowest all_empty
returns-clause-open c = (ap (λ (o : Option Endpoint). is_open (or_new o)) (this-end calls_back_under_text outward), ap (λ (o : Option Endpoint). is_open (or_new o)) (that-end calls_back_under_text inward))

pub returns-clause-messages : goal.returns-clause-messages
unfolding lowest all_empty back
returns-clause-messages c = ap (λ (o : Option Endpoint). (or_new o).messages) (that-end calls_back_under_text inward)

pub returns-clause-messages_at_sender : goal.returns-clause-messages_at_sender
unfolding lowest all_empty back
returns-clause-messages_at_sender c = ap (λ (o : Option Endpoint). (or_new o).messages) (this-end calls_back_under_text outward)

pub returns-clause-messages_granted : goal.returns-clause-messages_granted
unfolding lowest all_empty back
returns-clause-messages_granted c = let w = run calls_back_under_text in ap (λ (o : Option Endpoint). (total_on (or_new o).link granted (commands_back w)).messages) (this-end calls_back_under_text outward) ∙ ap (λ (h : ResetHost). (total_on 2 granted (commands_underway h w.that.control)).messages) (that-host calls_back_under_text) ∙ ap (λ (l : Link (List Command)). (total_on 2 granted (commands_underway (low_run calls_back_under_text).that.host l)).messages) (that-control calls_back_under_text)

pub returns-clause-messages_in_texts : goal.returns-clause-messages_in_texts
unfolding lowest all_empty back
returns-clause-messages_in_texts c = let w = run calls_back_under_text in ap (λ (o : Option Endpoint). how_many_texts (message_not_come (w.this.texts (or_new o).link).slot (w.this.texts (or_new o).link).subnet)) (this-end calls_back_under_text outward) ∙ ap (λ (l : Link TextOut). how_many_texts (message_not_come l.slot l.subnet)) (this-link calls_back_under_text 2)

pub returns-clause-messages_returned : goal.returns-clause-messages_returned
unfolding lowest all_empty back
returns-clause-messages_returned c = let w = run calls_back_under_text in ap (λ (o : Option Endpoint). (total_on (or_new o).link returned (commands_there w)).messages) (this-end calls_back_under_text outward) ∙ ap (λ (h : ResetHost). (total_on 2 returned (commands_underway h w.this.control)).messages) (this-host calls_back_under_text) ∙ ap (λ (l : Link (List Command)). (total_on 2 returned (commands_underway (low_run calls_back_under_text).this.host l)).messages) (this-control calls_back_under_text)

pub returns-clause-alone : goal.returns-clause-alone
unfolding lowest all_empty
returns-clause-alone c = this-end sender_cleared outward

pub returns-clause-alone_there : goal.returns-clause-alone_there
unfolding lowest all_empty
returns-clause-alone_there c = that-end sender_cleared inward

pub returns-clause-alone_got : goal.returns-clause-alone_got
unfolding lowest all_empty
returns-clause-alone_got c = ap (λ (p : PairHistory). p.got) (that-past sender_cleared inward)

pub returns-clause-alone_given : goal.returns-clause-alone_given
unfolding lowest all_empty
returns-clause-alone_given c = ap (λ (p : PairHistory). p.given) (this-past sender_cleared outward)
