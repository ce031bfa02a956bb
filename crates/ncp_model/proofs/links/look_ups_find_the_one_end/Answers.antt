use Rattle.ncp_model.specs.Ends.{hears_link, uses_link}
use Rattle.ncp_model.proofs.Lookups.{looked-up, looked-up-none}
use Rattle.ncp_model.proofs.links.look_ups_find_the_one_end.Goals as goal

pub returns-clause-sender : goal.returns-clause-sender
returns-clause-sender c = λ on m q e g t only. looked-up (hears_link on) m q e g t only

pub returns-clause-receiver : goal.returns-clause-receiver
returns-clause-receiver c = λ on m q e g t only. looked-up (uses_link on) m q e g t only

pub returns-clause-none_hears : goal.returns-clause-none_hears
returns-clause-none_hears c = λ on m none. looked-up-none (hears_link on) m none

pub returns-clause-none_uses : goal.returns-clause-none_uses
returns-clause-none_uses c = λ on m none. looked-up-none (uses_link on) m none
