use Rattle.std.proofs.Common.{◌≡◌, ◌++◌}
use Rattle.ncp_follow.specs.Followed.{session_after_all, tables_after_all}
use Rattle.ncp_follow.proofs.saying.hear_items.Given as goal

abbrev pub invariant-loop-item : goal.invariant-loop-item
invariant-loop-item l = record {
  can : goal.iterator-loop-item.can_next l.item-iterator;
  ends : goal.iterator-loop-item.is_finite l.item-iterator;
  items : l.yielded ++ l.item-iterator ≡ l.initial.item-iterator;
  session : l.session ≡ session_after_all l.fn.observation l.yielded l.initial.session;
  tables : l.tables ≡ tables_after_all l.fn.observation l.yielded l.initial.session l.initial.tables;
}
