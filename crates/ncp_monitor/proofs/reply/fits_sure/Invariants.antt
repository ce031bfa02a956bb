use Rattle.std.proofs.Common.{◌≡◌, drop}
use Rattle.ncp_monitor.specs.Replies.{is_own, fits_sure}
use Rattle.ncp_monitor.proofs.reply.fits_sure.Given as goal

abbrev pub invariant-loop-due : goal.invariant-loop-due
invariant-loop-due l = fits_sure (is_own l.flow) l.reply l.pending_replies ≡ fits_sure (is_own l.flow) l.reply (drop l.due-index l.pending_replies)
