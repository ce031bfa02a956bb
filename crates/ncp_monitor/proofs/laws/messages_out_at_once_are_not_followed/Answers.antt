use Rattle.std.proofs.Common.{refl}
use Rattle.ncp_monitor.proofs.laws.messages_out_at_once_are_not_followed.Goals as goal

pub returns-clause-alone : goal.returns-clause-alone
returns-clause-alone c = refl

pub returns-clause-comes : goal.returns-clause-comes
returns-clause-comes c = refl

pub returns-clause-unanswered : goal.returns-clause-unanswered
returns-clause-unanswered c = refl

pub returns-clause-answered : goal.returns-clause-answered
returns-clause-answered c = refl
