use Rattle.std.proofs.Common.{refl}
use Rattle.ncp_monitor.proofs.laws.parts_are_judged_so.Goals as goal

pub returns-clause-untold : goal.returns-clause-untold
returns-clause-untold c = refl

pub returns-clause-output : goal.returns-clause-output
returns-clause-output c = refl

pub returns-clause-crossing : goal.returns-clause-crossing
returns-clause-crossing c = refl

pub returns-clause-replies : goal.returns-clause-replies
returns-clause-replies c = refl

pub returns-clause-unknown : goal.returns-clause-unknown
returns-clause-unknown c = refl
