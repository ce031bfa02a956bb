use Rattle.ncp_interface.proofs.Keeping.{slot_over}
use Rattle.ncp_interface.proofs.sent_messages.SentMessages.set.Goals as goal

pub returns : goal.returns
returns c = slot_over c.self.inside.all.items c.args.self.now c.self.inside.count c.args.place c.index_mut.result.now c.args.slot c.self.view_is c.requires c.self.invariant.1 c.index_mut.ensures.value
