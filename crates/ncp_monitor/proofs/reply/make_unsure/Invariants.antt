use Rattle.std.proofs.Common.{◌≡◌, ◌++◌, map, take, drop}
use Rattle.ncp_monitor.specs.Replies.{is_own, optional}
use Rattle.ncp_monitor.proofs.reply.make_unsure.Given as goal

abbrev pub invariant-loop-due : goal.invariant-loop-due
invariant-loop-due l = l.pending_replies ≡ map (optional (is_own l.flow) l.reply) (take l.due-index l.initial.pending_replies) ++ drop l.due-index l.initial.pending_replies
