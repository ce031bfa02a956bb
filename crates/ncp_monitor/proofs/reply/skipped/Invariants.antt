use Rattle.std.proofs.Common.{◌≡◌, drop}
use Rattle.ncp_monitor.specs.Replies.{is_own, skipped}
use Rattle.ncp_monitor.proofs.reply.skipped.Given as goal

abbrev pub invariant-loop-due : goal.invariant-loop-due
invariant-loop-due l = skipped (is_own l.flow) l.reply l.pending_replies ≡ skipped (is_own l.flow) l.reply (drop l.due-index l.pending_replies)
