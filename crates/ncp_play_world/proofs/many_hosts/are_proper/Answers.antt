use Rattle.std.proofs.Common.{arith}
use Rattle.ncp_play_world.proofs.many_hosts.are_proper.Goals as goal

pub returns-clause-fits : goal.returns-clause-fits
returns-clause-fits c = λ place. let fits = c.type_inv.numbers place in omega arith
