use Rattle.std.proofs.Common.{◌≡◌, length, vec_capacity}
use Rattle.ncp_monitor.specs.Replies.{is_own, pending_struck}
use Rattle.ncp_monitor.proofs.conn_tables.strike_in.Given as goal

-- what is struck from what is left is what is struck from all
abbrev pub invariant-loop-place : goal.invariant-loop-place
invariant-loop-place l = record {
  items : pending_struck (is_own l.flow) l.reply l.pending_replies.items ≡ pending_struck (is_own l.flow) l.reply l.initial.pending_replies.items;
  room : vec_capacity l.pending_replies ≡ vec_capacity l.initial.pending_replies;
}

abbrev pub decreases-loop-place : goal.decreases-loop-place
decreases-loop-place l = length l.pending_replies.items
