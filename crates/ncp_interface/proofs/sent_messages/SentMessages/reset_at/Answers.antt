use Rattle.std.proofs.Common.{List, take, map, length, sym, ap, ◌∙◌}
use Rattle.std.specs.List.{take-map}
use Rattle.std.proofs.lemmas.List.{length-map, with_items_is}
use Rattle.ncp_interface.specs.declared.sent_message.SentMessage.{SentMessage}
use Rattle.ncp_interface.specs.Doubts.{after_reset_at}
use Rattle.ncp_interface.proofs.sent_messages.SentMessages.reset_at.Goals as goal

pub returns : goal.returns
returns c =
    let each = λ (all : List SentMessage). map (after_reset_at c.args.at) all in
    let now = c.reset_each.ensures ∙ ap each c.deref_mut.ensures.value in
    let long = ap (λ (all : List SentMessage). length all) now ∙ length-map c.self.inside.all.items (after_reset_at c.args.at) ∙ sym c.self.inside.all.ok.0 in
    ap (λ (all : List SentMessage). take c.self.inside.count all) (with_items_is c.self.inside.all c.reset_each.new.kept long ∙ now)
    ∙ take-map (after_reset_at c.args.at) c.self.inside.count c.self.inside.all.items ∙ ap each c.self.view_is
