use Rattle.std.proofs.Common.{◌∙◌, ap, set, arith}
use Rattle.std.proofs.lemmas.List.Edits.{map_over_more}
use Rattle.ncp_monitor.specs.declared.pending_reply.PendingReply.{PendingReply}
use Rattle.ncp_monitor.specs.Replies.{is_own, optional}
use Rattle.ncp_monitor.proofs.Striking.{same_at}
use Rattle.ncp_monitor.proofs.reply.make_unsure.Goals as goal

pub loop-due-preserved : goal.loop-due-preserved
loop-due-preserved c =
    ap (λ (due : PendingReply). set c.loop-due.pending_replies c.loop-due.due-index due) c.doubt.ensures
    ∙ map_over_more (optional (is_own c.args.flow) c.args.reply.now) c.args.pending_replies.now c.loop-due.pending_replies c.loop-due.due-index _ c.loop-due-test.true c.loop-due.invariant
    (same_at c.loop-due.pending_replies c.loop-due.due-index _ _ (omega (arith, c.loop-due-test.true, c.loop-due.auto.pending_replies)))
