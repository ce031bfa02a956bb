use Rattle.std.proofs.Common.{◌≡◌, [], ◌∷◌, refl}
use Rattle.std.specs.FinMap.{entries, get-entries, entries-from_sorted}
use Rattle.ncp_model.specs.Pairs.{pair_cmp}
use Rattle.ncp_model.specs.Amounts.{back}
use Rattle.ncp_model.specs.Endpoint.{Endpoint}
use Rattle.ncp_model.specs.Ends.{lowest}
use Rattle.ncp_model.specs.Rows.{outward, inward, asked_receive, opened_end, gone, ends_both_ways, both_ways}
use Rattle.ncp_model.specs.RowFacts.{its_request}
use Rattle.ncp_model.proofs.links.commands_lead_to_ends.Goals as goal

entries-are : entries both_ways ≡ ends_both_ways
entries-are = entries-from_sorted pair_cmp ends_both_ways tt

pub returns-clause-rts : goal.returns-clause-rts
returns-clause-rts c = refl

pub returns-clause-rts_of_a_new_end : goal.returns-clause-rts_of_a_new_end
returns-clause-rts_of_a_new_end c = rw (get-entries both_ways (record { local = 5; remote = 4 }), entries-are) refl

pub returns-clause-rts_taken : goal.returns-clause-rts_taken
returns-clause-rts_taken c = rw (get-entries both_ways (record { local = 5; remote = 4 }), entries-are) refl

pub returns-clause-str : goal.returns-clause-str
returns-clause-str c = refl

pub returns-clause-str_opens : goal.returns-clause-str_opens
returns-clause-str_opens c = rw (get-entries both_ways its_request, entries-are) refl

pub returns-clause-cls : goal.returns-clause-cls
returns-clause-cls c = refl

pub returns-clause-cls_ends : goal.returns-clause-cls_ends
returns-clause-cls_ends c = rw (get-entries both_ways outward, entries-are) refl

pub returns-clause-all : goal.returns-clause-all
returns-clause-all c = rw entries-are refl

pub returns-clause-all_adds : goal.returns-clause-all_adds
returns-clause-all_adds c = rw entries-are refl

pub returns-clause-gvb : goal.returns-clause-gvb
returns-clause-gvb c = rw entries-are refl

pub returns-clause-gvb_returns : goal.returns-clause-gvb_returns
unfolding back
returns-clause-gvb_returns c = rw entries-are refl

pub returns-clause-ret : goal.returns-clause-ret
returns-clause-ret c = rw entries-are refl

pub returns-clause-ret_lowers : goal.returns-clause-ret_lowers
returns-clause-ret_lowers c = rw entries-are refl

pub returns-clause-inr : goal.returns-clause-inr
returns-clause-inr c = rw entries-are refl

pub returns-clause-inr_counts : goal.returns-clause-inr_counts
returns-clause-inr_counts c = rw entries-are refl

pub returns-clause-ins : goal.returns-clause-ins
returns-clause-ins c = rw entries-are refl

pub returns-clause-ins_counts : goal.returns-clause-ins_counts
returns-clause-ins_counts c = rw entries-are refl

pub returns-clause-nowhere : goal.returns-clause-nowhere
returns-clause-nowhere c = rw entries-are refl

pub returns-clause-nowhere_is_an_error : goal.returns-clause-nowhere_is_an_error
returns-clause-nowhere_is_an_error c = rw entries-are refl

pub returns-clause-lowest : goal.returns-clause-lowest
unfolding lowest
returns-clause-lowest c = rw entries-are refl

pub returns-clause-first : goal.returns-clause-first
unfolding lowest
returns-clause-first c = rw (entries-from_sorted {X = Endpoint} pair_cmp [] tt) refl

pub returns-clause-second : goal.returns-clause-second
unfolding lowest
returns-clause-second c = rw (entries-from_sorted pair_cmp ((inward, asked_receive) ∷ []) tt) refl

pub returns-clause-left : goal.returns-clause-left
unfolding lowest
returns-clause-left c = rw (entries-from_sorted pair_cmp ((inward, gone opened_end) ∷ []) tt) refl

pub returns-clause-gap : goal.returns-clause-gap
unfolding lowest
returns-clause-gap c = rw (entries-from_sorted pair_cmp ((inward, record asked_receive { link = 3 }) ∷ []) tt) refl
