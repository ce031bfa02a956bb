use Rattle.std.proofs.Common.{[], refl, sym}
use Rattle.ncp_pipe.specs.Pipe.{Closed, Closing, without_sender, without_receiver}
use Rattle.ncp_pipe.proofs.sides.a_cut_may_be_a_leave.Goals as goal

pub returns-clause-sender : goal.returns-clause-sender
returns-clause-sender c p q on e = (without_sender Closing p, (on, refl), (without_sender Closed p, (refl, refl), sym e))

pub returns-clause-receiver : goal.returns-clause-receiver
returns-clause-receiver c p q on e = (record p { receiver = Closing; in_flight = []; allowed = 0 }, (on, refl), (without_receiver Closed p, (refl, refl), sym e))
