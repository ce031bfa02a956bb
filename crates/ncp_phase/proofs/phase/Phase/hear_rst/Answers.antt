use Rattle.ncp_phase.proofs.Waits.{waits_owing}
use Rattle.ncp_phase.proofs.phase.Phase.hear_rst.Goals as goal

pub invariant_of-self : goal.invariant_of-self
invariant_of-self c = rw c.strike.ensures (waits_owing _ c.self.invariant)
