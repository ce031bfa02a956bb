use Rattle.std.proofs.Common.{All}
use Rattle.ncp_model.specs.declared.pair.Pair.{Pair}
use Rattle.ncp_peer.specs.Soundness.{IsPlaced}
use Rattle.ncp_peer.proofs.association.Association.are_placed.Given as goal

-- where those that are left are placed all are
abbrev pub invariant-loop-pair : goal.invariant-loop-pair
invariant-loop-pair g l =
    (goal.iterator-loop-pair g).can_next l.pair-iterator
    × (goal.iterator-loop-pair g).is_finite l.pair-iterator
    × (All (IsPlaced l.self.ends l.slots) l.pair-iterator → (p : Pair) → IsPlaced l.self.ends l.slots p)
