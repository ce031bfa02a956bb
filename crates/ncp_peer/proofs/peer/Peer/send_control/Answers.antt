use Rattle.std.proofs.Common.{refl}
use Rattle.ncp_slot.specs.declared.slot.Slot.TheVariants.{Travelling}
use Rattle.ncp_slot.specs.Slots.{with_slot}
use Rattle.ncp_peer.proofs.Silence.{marked_sent}
use Rattle.ncp_peer.proofs.peer.Peer.send_control.Goals as goal

pub invariant_of-self-2 : goal.invariant_of-self-2
invariant_of-self-2 g c =
    marked_sent c.self.inside.kept c.insert.new.self c.self.inside.again c.self.inside.slots (with_slot c.self.inside.slots 0 (Travelling c.write_control.new.message)) 0 c.write_control.new.message
    c.self.invariant refl c.insert.ensures
