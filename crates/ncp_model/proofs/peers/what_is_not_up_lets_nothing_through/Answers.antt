use Rattle.std.proofs.Common.{◌≡◌, refl}
use Rattle.std.specs.FinMap.{entries, get-entries, entries-from_sorted}
use Rattle.ncp_model.specs.Pairs.{pair_cmp}
use Rattle.ncp_model.specs.Rows.{outward, inward, ends_both_ways, both_ways}
use Rattle.ncp_model.proofs.peers.what_is_not_up_lets_nothing_through.Goals as goal

entries-are : entries both_ways ≡ ends_both_ways
entries-are = entries-from_sorted pair_cmp ends_both_ways tt

pub returns-clause-interrupt : goal.returns-clause-interrupt
returns-clause-interrupt c = refl

pub returns-clause-interrupt_when_up : goal.returns-clause-interrupt_when_up
returns-clause-interrupt_when_up c = rw (get-entries both_ways inward, entries-are) refl

pub returns-clause-interrupt_when_up_and_open : goal.returns-clause-interrupt_when_up_and_open
returns-clause-interrupt_when_up_and_open c = rw (get-entries both_ways outward, entries-are) refl
