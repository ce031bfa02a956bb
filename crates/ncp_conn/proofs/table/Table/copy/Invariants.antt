use Rattle.std.specs.Iterator.Adapters.{rev_source}
use Rattle.ncp_conn.proofs.Copying.{Copied}
use Rattle.ncp_conn.proofs.table.Table.copy.Given as goal

-- the entries that are left, and those that are copied
abbrev pub invariant-loop-entry : goal.invariant-loop-entry
invariant-loop-entry g l =
    (goal.iterator-loop-entry g).can_next l.entry-iterator
    × (goal.iterator-loop-entry g).is_finite l.entry-iterator
    × Copied l.self (rev_source l.entry-iterator) l.copy
