use Rattle.std.proofs.Common.{◌≡◌, List, [], ◌∷◌, refl}
use Rattle.std.specs.FinMap.{entries, get-entries, from_sorted, entries-from_sorted}
use Rattle.ncp_numbers.specs.Numbers.{number_of}
use Rattle.ncp_model.specs.declared.pair.Pair.{Pair}
use Rattle.ncp_model.specs.Pairs.{pair_cmp}
use Rattle.ncp_model.specs.Endpoint.{Endpoint}
use Rattle.ncp_model.specs.Ends.{lowest}
use Rattle.ncp_model.specs.Rows.{outward, inward, asked_receive, opened_end, due, ends_both_ways, both_ways}
use Rattle.ncp_model.specs.RowFacts.{new_outward, new_inward, loaded, one_granted, busy_end}
use Rattle.ncp_model.proofs.links.texts_lead_to_ends.Goals as goal

entries-are : entries both_ways ≡ ends_both_ways
entries-are = entries-from_sorted pair_cmp ends_both_ways tt

pub returns-clause-comes : goal.returns-clause-comes
returns-clause-comes c = rw entries-are refl

pub returns-clause-comes_early : goal.returns-clause-comes_early
returns-clause-comes_early c = rw entries-are refl

pub returns-clause-comes_nowhere : goal.returns-clause-comes_nowhere
returns-clause-comes_nowhere c = rw entries-are refl

pub returns-clause-goes_out : goal.returns-clause-goes_out
returns-clause-goes_out c = rw (entries-from_sorted pair_cmp ((outward, loaded one_granted) ∷ []) tt) refl

pub returns-clause-goes_nowhere : goal.returns-clause-goes_nowhere
returns-clause-goes_nowhere c = rw entries-are refl

pub returns-clause-goes_not_from_receiver : goal.returns-clause-goes_not_from_receiver
returns-clause-goes_not_from_receiver c = rw (entries-from_sorted pair_cmp ((inward, loaded one_granted) ∷ []) tt) refl

pub returns-clause-answered : goal.returns-clause-answered
returns-clause-answered c = rw (entries-from_sorted pair_cmp ((outward, due busy_end) ∷ []) tt) refl

pub returns-clause-answered_nowhere : goal.returns-clause-answered_nowhere
returns-clause-answered_nowhere c = rw entries-are refl

pub returns-clause-answered_not_at_receiver : goal.returns-clause-answered_not_at_receiver
returns-clause-answered_not_at_receiver c = rw (entries-from_sorted pair_cmp ((inward, due opened_end) ∷ []) tt) refl

pub returns-clause-asks : goal.returns-clause-asks
unfolding lowest
returns-clause-asks c = rw (get-entries both_ways new_inward, entries-are) refl

pub returns-clause-asks_to_send : goal.returns-clause-asks_to_send
returns-clause-asks_to_send c = rw (get-entries both_ways new_outward, entries-are) refl

pub returns-clause-leads_by_head : goal.returns-clause-leads_by_head
unfolding number_of
returns-clause-leads_by_head c = refl

pub returns-clause-leads_not_by_another_head : goal.returns-clause-leads_not_by_another_head
unfolding number_of
returns-clause-leads_not_by_another_head c = refl

pub returns-clause-leads_by_link : goal.returns-clause-leads_by_link
unfolding number_of
returns-clause-leads_by_link c = refl

pub returns-clause-from_empty : goal.returns-clause-from_empty
unfolding lowest
returns-clause-from_empty c = rw (get-entries (from_sorted {X = Endpoint} {R = pair_cmp} []) inward, entries-from_sorted {X = Endpoint} pair_cmp [] tt) refl

pub returns-clause-freed : goal.returns-clause-freed
unfolding lowest
returns-clause-freed c =
    let one : List (Pair × Endpoint) = (record { local = 4; remote = 5 }, record asked_receive { link = 3 }) ∷ [] in
    rw (get-entries (from_sorted {R = pair_cmp} one) (record { local = 10; remote = 11 }), entries-from_sorted pair_cmp one tt) refl
