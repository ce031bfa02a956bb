use Rattle.std.proofs.Common.{◌≡◌, drop}
use Rattle.ncp_monitor.specs.Allocation.{numbers_due}
use Rattle.ncp_monitor.specs.Replies.{is_own}
use Rattle.ncp_monitor.proofs.allocation.numbers_due.Given as goal

abbrev pub invariant-loop-due : goal.invariant-loop-due
invariant-loop-due l = numbers_due (is_own l.flow) l.reply l.pending_replies ≡ numbers_due (is_own l.flow) l.reply (drop l.due-index l.pending_replies)
