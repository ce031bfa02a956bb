use Rattle.std.proofs.Common.{◌∙◌, sym, ap, rules, List}
use Rattle.ncp_monitor.specs.declared.pending_reply.PendingReply.{PendingReply}
use Rattle.ncp_monitor.specs.Replies.{is_own, pending_struck}
use Rattle.ncp_monitor.proofs.Striking.{struck_fits, struck_on, none_struck}
use Rattle.ncp_monitor.proofs.conn_tables.strike_in.Goals as goal

pub returns-then-fits-clause-items : goal.returns-then-fits-clause-items
returns-then-fits-clause-items c =
    c.remove-due.ensures.items
    ∙ sym (struck_fits (is_own c.args.flow) c.args.reply.now c.loop-place.pending_replies.items c.in-Some.place c.remove-due.result (search rules) c.remove-due.ensures.value (search rules))
    ∙ c.loop-place.invariant.items

pub returns-then-fits-clause-room : goal.returns-then-fits-clause-room
returns-then-fits-clause-room c = c.remove-due.ensures.capacity ∙ c.loop-place.invariant.room

pub loop-place-preserved : goal.loop-place-preserved
loop-place-preserved c = record {
  items =
      ap (λ (pending_replies : List PendingReply). pending_struck (is_own c.args.flow) c.args.reply.now pending_replies) c.remove-due.ensures.items
      ∙ sym (struck_on (is_own c.args.flow) c.args.reply.now c.loop-place.pending_replies.items c.in-Some.place c.remove-due.result (search rules) c.remove-due.ensures.value (search rules))
      ∙ c.loop-place.invariant.items;
  room = c.remove-due.ensures.capacity ∙ c.loop-place.invariant.room;
}

pub returns-clause-items : goal.returns-clause-items
returns-clause-items c = sym (none_struck (is_own c.args.flow) c.args.reply.now c.loop-place.pending_replies.items (search rules)) ∙ c.loop-place.invariant.items

pub returns-clause-room : goal.returns-clause-room
returns-clause-room c = c.loop-place.invariant.room
