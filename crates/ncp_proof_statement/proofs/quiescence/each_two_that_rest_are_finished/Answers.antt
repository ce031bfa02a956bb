use Rattle.std.proofs.Common.{sym, subst}
use Rattle.ncp_proof_quiescence.specs.Settled.{IsSettled}
use Rattle.ncp_proof_statement.specs.Notes.{mutual_notes}
use Rattle.ncp_proof_statement.proofs.quiescence.each_two_that_rest_are_finished.Goals as goal

pub returns : goal.returns
returns c x y ns t still =
    c.two_that_rest_are_finished_over_any_subnet.ensures x.me y.me (mutual_notes x.me y.me ns) (c.two_among_others_are_two_by_themselves.ensures.alone x y ns t)
    (subst IsSettled (sym (c.two_among_others_are_two_by_themselves.ensures.seen x y ns t)) still)
