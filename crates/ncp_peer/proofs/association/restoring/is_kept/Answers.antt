use Rattle.ncp_peer.proofs.Agreed.{full_has_slot}
use Rattle.ncp_peer.proofs.association.restoring.is_kept.Goals.{then-link-ne0, else-link-ne0}
use Rattle.ncp_peer.proofs.association.restoring.is_kept.Goals as goal

pub returns-else-has_slot-clause-keeps : goal.returns-else-has_slot-clause-keeps
returns-else-has_slot-clause-keeps c = λ some has full. elim c.if-link-ne0.branch [
  | then-link-ne0 w ↦ absurd (let yes = w.has_slot.ensures.1 (full_has_slot c.args.slots.now c.args.link has full) in let is = w.value-is in let no = c.if-has_slot.false in cc)
  | else-link-ne0 w ↦ absurd (some w.if-link-ne0.false)
]
