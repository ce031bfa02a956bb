use Rattle.std.proofs.Common.{◌≡◌, ◌≤◌, ◌+◌, ◌*◌, ◌++◌, length}
use Rattle.ncp_monitor.specs.Phases.{after_items}
use Rattle.ncp_monitor.specs.Talked.{after_talked, talked_findings}
use Rattle.ncp_monitor.proofs.monitor.judge_items.Given as goal

abbrev pub invariant-loop-item : goal.invariant-loop-item
invariant-loop-item l = record {
  can : goal.iterator-loop-item.can_next l.item-iterator;
  ends : goal.iterator-loop-item.is_finite l.item-iterator;
  items : l.yielded ++ l.item-iterator ≡ l.initial.item-iterator;
  view : l.view ≡ after_items l.fn.judge_context.context l.yielded l.initial.view;
  conn_tables : l.conn_tables ≡ after_talked l.fn.judge_context.context l.fn.judge_context.flow l.fn.judge_context.kept.now l.yielded l.initial.view l.initial.conn_tables;
  found : l.found ≡ l.initial.found ++ talked_findings l.fn.judge_context.context l.fn.judge_context.flow l.fn.judge_context.kept.now l.yielded l.initial.view l.initial.conn_tables;
  len : length l.found ≤ length l.initial.found + 5 * length l.yielded;
}
