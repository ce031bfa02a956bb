use Rattle.std.proofs.Common.{◌≡◌}
use Rattle.slab.specs.Slab.{entries}
use Rattle.ncp_model.specs.Pairs.{same}
use Rattle.ncp_conn.specs.Entries.{key_of}
use Rattle.ncp_conn.proofs.entries.Entries.key_of.Given as goal

-- the first key among the entries that are left is the first of all
abbrev pub invariant-loop-key : goal.invariant-loop-key
invariant-loop-key g l =
    (goal.iterator-loop-key g).can_next l.key-iterator
    × (goal.iterator-loop-key g).is_finite l.key-iterator
    × (key_of (λ e. same e.0 l.pair) l.key-iterator ≡ key_of (λ e. same e.0 l.pair) (entries l.self.slab))
