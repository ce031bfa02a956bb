use Rattle.std.proofs.Common.{ap, ◌∙◌}
use Rattle.std.specs.Iterator.Adapters.{rev_source}
use Rattle.ncp_conn.proofs.Copying.{copied_none, copied_enters, copied_one}
use Rattle.ncp_conn.proofs.table.Table.copy.Goals as goal

pub loop-entry-init : goal.loop-entry-init
loop-entry-init g c = (
  tt,
  tt,
  copied_none c.self.inside.entries.slab.slots c.self.inside.entries.slab.capacity c.args.self.now (rev_source c.into_iter-entry-iterator.result) c.in_ok-copy.copy c.self.invariant.table c.self.view_is
      (ap rev_source c.into_iter-entry-iterator.ensures.into_iter_gives ∙ c.rev-entry-items.ensures.source ∙ c.iter.ensures.rest) c.in_ok-copy.ensures,
)

pub enter-requires : goal.enter-requires
enter-requires g c = record {
  enters = copied_enters c.args.self.now (rev_source c.loop-entry.entry-iterator) (rev_source c.next.new.self) c.in-Some.field-0-0 c.in-Some.entry.now c.in_ok-copy-2.field-0 c.loop-entry.copy c.in-Some.ensures.steps c.in_ok-copy-2.ensures c.loop-entry.invariant.2;
}

pub loop-entry-preserved : goal.loop-entry-preserved
loop-entry-preserved g c =
    (tt, tt, copied_one c.args.self.now (rev_source c.loop-entry.entry-iterator) (rev_source c.next.new.self) c.in-Some.field-0-0 c.in-Some.entry.now c.in_ok-copy-2.field-0 c.loop-entry.copy c.in-Some.ensures.steps c.in_ok-copy-2.ensures c.loop-entry.invariant.2 c.enter.new.self c.enter.ensures)
