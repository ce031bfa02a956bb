use Rattle.std.specs.List.{All}
use Rattle.slab.specs.Slab.{entries}
use Rattle.ncp_conn.proofs.Possible.{IsFit}
use Rattle.ncp_conn.proofs.entries.Entries.are_possible.Given as goal

-- all are possible if those that are left are
abbrev pub invariant-loop-entry : goal.invariant-loop-entry
invariant-loop-entry g l =
    (goal.iterator-loop-entry g).can_next l.entry-iterator
    × (goal.iterator-loop-entry g).is_finite l.entry-iterator
    × (All IsFit l.entry-iterator → All IsFit (entries l.self.slab))
