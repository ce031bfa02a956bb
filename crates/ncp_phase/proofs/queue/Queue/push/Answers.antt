use Rattle.std.proofs.Common.{rules}
use Rattle.ncp_phase.proofs.queue.Queue.push.Goals as goal

pub returns : goal.returns
returns c = search rules
