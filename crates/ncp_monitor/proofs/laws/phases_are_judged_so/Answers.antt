use Rattle.std.proofs.Common.{refl}
use Rattle.ncp_monitor.proofs.laws.phases_are_judged_so.Goals as goal

pub returns-clause-before : goal.returns-clause-before
returns-clause-before c = refl

pub returns-clause-reset : goal.returns-clause-reset
returns-clause-reset c = refl

pub returns-clause-replied : goal.returns-clause-replied
returns-clause-replied c = refl

pub returns-clause-owed : goal.returns-clause-owed
returns-clause-owed c = refl

pub returns-clause-peer : goal.returns-clause-peer
returns-clause-peer c = refl
