use Rattle.std.proofs.Common.{◌≡◌, refl}
use Rattle.std.specs.FinMap.{entries, get-entries, entries-from_sorted}
use Rattle.ncp_model.specs.Pairs.{pair_cmp}
use Rattle.ncp_model.specs.Ends.{lowest}
use Rattle.ncp_model.specs.Rows.{outward, ends_both_ways, both_ways}
use Rattle.ncp_model.specs.RowFacts.{its_receiver}
use Rattle.ncp_model.proofs.peers.calls_at_a_host_that_is_up.Goals as goal

entries-are : entries both_ways ≡ ends_both_ways
entries-are = entries-from_sorted pair_cmp ends_both_ways tt

pub returns-clause-asks : goal.returns-clause-asks
unfolding lowest
returns-clause-asks c = rw (get-entries both_ways (record { local = 8; remote = 11 }), entries-are) refl

pub returns-clause-asks_to_send : goal.returns-clause-asks_to_send
returns-clause-asks_to_send c = rw (get-entries both_ways (record { local = 11; remote = 8 }), entries-are) refl

pub returns-clause-gives : goal.returns-clause-gives
returns-clause-gives c = rw (get-entries both_ways outward, entries-are) refl

pub returns-clause-gives_in_part : goal.returns-clause-gives_in_part
returns-clause-gives_in_part c = rw (get-entries both_ways outward, entries-are) refl

pub returns-clause-takes : goal.returns-clause-takes
returns-clause-takes c = rw (get-entries both_ways its_receiver, entries-are) refl

pub returns-clause-takes_from_sender : goal.returns-clause-takes_from_sender
returns-clause-takes_from_sender c = rw (get-entries both_ways outward, entries-are) refl

pub returns-clause-calls_back : goal.returns-clause-calls_back
returns-clause-calls_back c = rw (get-entries both_ways its_receiver, entries-are) refl

pub returns-clause-allocates : goal.returns-clause-allocates
returns-clause-allocates c = rw (get-entries both_ways its_receiver, entries-are) refl

pub returns-clause-full : goal.returns-clause-full
returns-clause-full c = rw (get-entries both_ways outward, entries-are) refl

pub returns-clause-not_full : goal.returns-clause-not_full
returns-clause-not_full c = rw (get-entries both_ways outward, entries-are) refl

pub returns-clause-closes_when_full : goal.returns-clause-closes_when_full
returns-clause-closes_when_full c = rw (get-entries both_ways outward, entries-are) refl

pub returns-clause-closes : goal.returns-clause-closes
returns-clause-closes c = rw (get-entries both_ways outward, entries-are) refl
