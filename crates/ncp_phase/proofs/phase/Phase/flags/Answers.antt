use Rattle.std.proofs.Common.{ap}
use Rattle.ncp_phase.specs.Flags.{flags_of}
use Rattle.ncp_phase.proofs.phase.Phase.flags.Goals as goal

pub returns : goal.returns
returns c = ap flags_of c.self.view_is
