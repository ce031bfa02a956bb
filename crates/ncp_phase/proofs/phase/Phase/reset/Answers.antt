use Rattle.ncp_phase.proofs.Waits.{waits_wanted}
use Rattle.ncp_phase.proofs.phase.Phase.reset.Goals as goal

pub invariant_of-self : goal.invariant_of-self
invariant_of-self c = rw c.strike.ensures (waits_wanted _ c.self.invariant)
