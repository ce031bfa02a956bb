use Rattle.std.proofs.Common.{◌∙◌, ap, set, arith}
use Rattle.std.proofs.lemmas.List.Edits.{map_over_more}
use Rattle.ncp_interface.specs.declared.sent_message.SentMessage.{SentMessage}
use Rattle.ncp_interface.specs.Slots.{after_repeat_at}
use Rattle.ncp_interface.proofs.Keeping.{kept_same}
use Rattle.ncp_interface.proofs.sent_messages.repeat_each.Goals as goal

pub loop-one-preserved : goal.loop-one-preserved
loop-one-preserved c =
    ap (λ (one : SentMessage). set c.loop-one.kept c.loop-one.one-index one) c.repeat_at.ensures
    ∙ map_over_more (after_repeat_at c.args.at) c.args.kept.now c.loop-one.kept c.loop-one.one-index _ c.loop-one-test.true c.loop-one.invariant
    (kept_same c.loop-one.kept c.loop-one.one-index _ _ (omega (arith, c.loop-one-test.true, c.loop-one.auto.kept)))
