use Rattle.std.proofs.Common.{refl}
use Rattle.ncp_numbers.specs.Numbers.{number_of}
use Rattle.ncp_monitor.proofs.laws.padding_is_judged_so.Goals as goal

pub returns-clause-none : goal.returns-clause-none
unfolding number_of lib.Count.ones
returns-clause-none c = refl

pub returns-clause-zeros : goal.returns-clause-zeros
unfolding number_of lib.Count.ones
returns-clause-zeros c = refl

pub returns-clause-filled : goal.returns-clause-filled
unfolding number_of lib.Count.ones
returns-clause-filled c = refl

pub returns-clause-long : goal.returns-clause-long
unfolding number_of lib.Count.ones
returns-clause-long c = refl

pub returns-clause-ones : goal.returns-clause-ones
unfolding number_of lib.Count.ones
returns-clause-ones c = refl
