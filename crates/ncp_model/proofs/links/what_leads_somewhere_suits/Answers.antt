use Rattle.ncp_model.proofs.LinksDemux.{command-led, text-led, cut-led, answered-led, suits-led}
use Rattle.ncp_model.proofs.links.what_leads_somewhere_suits.Goals as goal

pub returns-clause-command : goal.returns-clause-command
returns-clause-command c = λ m d pair what to it. (command-led m d pair what to it).0

pub returns-clause-command_happens : goal.returns-clause-command_happens
returns-clause-command_happens c = λ m d pair what to it. (command-led m d pair what to it).1

pub returns-clause-text : goal.returns-clause-text
returns-clause-text c = λ m head of_size text pair to. (text-led m head of_size text pair to).0

pub returns-clause-text_happens : goal.returns-clause-text_happens
returns-clause-text_happens c = λ m head of_size text pair to. (text-led m head of_size text pair to).1

pub returns-clause-cut : goal.returns-clause-cut
returns-clause-cut c = λ m on pair to. (cut-led m on pair to).0

pub returns-clause-cut_happens : goal.returns-clause-cut_happens
returns-clause-cut_happens c = λ m on pair to. (cut-led m on pair to).1

pub returns-clause-answered : goal.returns-clause-answered
returns-clause-answered c = λ m on how pair to. (answered-led m on how pair to).0

pub returns-clause-answered_happens : goal.returns-clause-answered_happens
returns-clause-answered_happens c = λ m on how pair to. (answered-led m on how pair to).1

pub returns-clause-suits : goal.returns-clause-suits
returns-clause-suits c = suits-led
