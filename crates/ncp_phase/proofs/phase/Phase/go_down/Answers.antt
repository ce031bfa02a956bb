use Rattle.ncp_phase.proofs.Waits.{waits_down}
use Rattle.ncp_phase.proofs.phase.Phase.go_down.Goals as goal

pub invariant_of-self : goal.invariant_of-self
invariant_of-self c = rw c.strike.ensures (waits_down _ c.self.invariant)
