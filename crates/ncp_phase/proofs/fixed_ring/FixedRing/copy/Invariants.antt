use Rattle.std.proofs.Common.{◌≡◌, ◌++◌}
use Rattle.ncp_phase.proofs.fixed_ring.FixedRing.copy.Given as goal

-- the items that are copied and those that are left
abbrev pub invariant-loop-item : goal.invariant-loop-item
invariant-loop-item g l =
    (goal.iterator-loop-item g).can_next l.item-iterator
    × (goal.iterator-loop-item g).is_finite l.item-iterator
    × (l.copy.items ++ l.item-iterator ≡ l.self.items)
    × (l.copy.capacity ≡ l.self.capacity)
