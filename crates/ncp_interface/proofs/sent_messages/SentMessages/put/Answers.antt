use Rattle.std.proofs.Common.{◌<◌, length, set, ap, ◌∙◌, rules}
use Rattle.ncp_interface.proofs.Keeping.{kept_over}
use Rattle.ncp_interface.specs.declared.sent_message.SentMessage.{SentMessage}
use Rattle.ncp_interface.proofs.sent_messages.SentMessages.put.Goals as goal

pub returns-in-Some-clause-kept : goal.returns-in-Some-clause-kept
returns-in-Some-clause-kept c =
    let inside : c.in-Some.place < length c.args.self.now = search rules in
    rw c.in-Some.is (
    kept_over c.self.inside.all.items c.args.self.now c.self.inside.count c.in-Some.place c.write.new.self c.self.view_is inside c.self.invariant.1
    ∙ ap (λ (kept : SentMessage). set c.args.self.now c.in-Some.place kept) c.write.ensures)
