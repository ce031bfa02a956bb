use Rattle.std.proofs.Common.{arith}
use Rattle.ncp_leader.proofs.Leaders.{BeginsWith-at}
use Rattle.ncp_leader.proofs.leader.read_leader_in.Goals as goal

pub returns-clause-found : goal.returns-clause-found
returns-clause-found c = rw c.leader_of.ensures (BeginsWith-at c.args.part.now (omega arith))
