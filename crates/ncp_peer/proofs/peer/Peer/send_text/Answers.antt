use Rattle.std.proofs.Common.{refl}
use Rattle.ncp_slot.specs.declared.slot.Slot.TheVariants.{Travelling}
use Rattle.ncp_slot.specs.Slots.{with_slot}
use Rattle.ncp_peer.proofs.Silence.{marked_sent}
use Rattle.ncp_peer.proofs.peer.Peer.send_text.Goals as goal

pub invariant_of-self : goal.invariant_of-self
invariant_of-self g c =
    marked_sent c.self.inside.kept c.insert.new.self c.self.inside.again c.self.inside.slots (with_slot c.self.inside.slots c.args.link (Travelling c.write_text.new.message)) c.args.link c.write_text.new.message
    c.self.invariant refl c.insert.ensures
