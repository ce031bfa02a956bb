use Rattle.std.proofs.Common.{◌≡◌, ◌+◌}
use Rattle.std.specs.List.{count_by}
use Rattle.slab.specs.Slab.{entries}
use Rattle.ncp_conn.specs.Listing.{is_before}
use Rattle.ncp_conn.proofs.entries.Entries.count_before.Given as goal

-- those that were counted and those among the entries that are left are all
abbrev pub invariant-loop-entry : goal.invariant-loop-entry
invariant-loop-entry g l =
    (goal.iterator-loop-entry g).can_next l.entry-iterator
    × (goal.iterator-loop-entry g).is_finite l.entry-iterator
    × (l.count + count_by (λ e. is_before l.pair e.1) l.entry-iterator ≡ count_by (λ e. is_before l.pair e.1) (entries l.self.slab))
