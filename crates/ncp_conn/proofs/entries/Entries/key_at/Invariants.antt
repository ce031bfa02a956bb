use Rattle.std.proofs.Common.{◌≡◌}
use Rattle.slab.specs.Slab.{entries, values}
use Rattle.ncp_conn.specs.Entries.{key_of}
use Rattle.ncp_conn.specs.Listing.{stands_at}
use Rattle.ncp_conn.proofs.entries.Entries.key_at.Given as goal

-- the first key among the entries that are left is the first of all
abbrev pub invariant-loop-key : goal.invariant-loop-key
invariant-loop-key g l =
    (goal.iterator-loop-key g).can_next l.key-iterator
    × (goal.iterator-loop-key g).is_finite l.key-iterator
    × (key_of (stands_at l.place (values l.self.slab)) l.key-iterator ≡ key_of (stands_at l.place (values l.self.slab)) (entries l.self.slab))
