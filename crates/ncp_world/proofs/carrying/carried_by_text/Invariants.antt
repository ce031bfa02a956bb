use Rattle.std.proofs.Common.{◌≡◌, ◌≤◌, ◌-◌, length}
use Rattle.ncp_control.specs.Texts.{commands_among}
use Rattle.ncp_world.specs.Reckoning.{carried_on, carried_both, OfAtMost}
use Rattle.ncp_world.proofs.carrying.carried_by_text.Given as goal

-- the sum, with what the items that are left carry, is all that they carry
abbrev pub invariant-loop-item : goal.invariant-loop-item
invariant-loop-item l = record {
  can : (goal.iterator-loop-item).can_next l.item-iterator;
  ends : (goal.iterator-loop-item).is_finite l.item-iterator;
  all : carried_both l.sum (carried_on l.fn.link (commands_among l.item-iterator)) ≡ carried_on l.fn.link (commands_among l.initial.item-iterator);
  small : OfAtMost (length l.initial.item-iterator - length l.item-iterator) l.sum;
  within : length l.item-iterator ≤ length l.initial.item-iterator;
}
