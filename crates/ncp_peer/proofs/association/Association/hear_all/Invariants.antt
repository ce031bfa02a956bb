use Rattle.std.proofs.Common.{◌≡◌, ◌++◌, length}
use Rattle.ncp_control.specs.Texts.{commands_among}
use Rattle.ncp_peer.specs.Steps.{heard_items}
use Rattle.ncp_peer.proofs.association.Association.hear_all.Given as goal

abbrev pub invariant-loop-item : goal.invariant-loop-item
invariant-loop-item g l = record {
  can : (goal.iterator-loop-item g).can_next l.item-iterator;
  ends : (goal.iterator-loop-item g).is_finite l.item-iterator;
  items : l.yielded ++ l.item-iterator ≡ l.initial.item-iterator;
  count : l.count ≡ length (commands_among l.yielded);
  heard : (l.self, l.counts) ≡ heard_items l.fn.quiet l.yielded (l.initial.self, l.initial.counts);
}
