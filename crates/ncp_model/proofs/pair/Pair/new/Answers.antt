use Rattle.std.proofs.Common.{refl}
use Rattle.ncp_model.proofs.pair.Pair.new.Goals as goal

pub returns-clause-here : goal.returns-clause-here
returns-clause-here c = refl

pub returns-clause-there : goal.returns-clause-there
returns-clause-there c = refl
