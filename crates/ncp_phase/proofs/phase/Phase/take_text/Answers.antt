use Rattle.ncp_phase.proofs.Waits.{waits_dropped}
use Rattle.ncp_phase.proofs.phase.Phase.take_text.Goals as goal

pub invariant_of-self : goal.invariant_of-self
invariant_of-self c = rw c.take_text.ensures.rest (waits_dropped _ _ c.self.invariant)
