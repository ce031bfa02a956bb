use Rattle.ncp_proof_statement.specs.HonestRuns.{WorldOf}
use Rattle.ncp_proof_statement.proofs.Resting.{finished}
use Rattle.ncp_proof_statement.proofs.quiescence.two_that_rest_are_finished_over_any_subnet.Goals as goal

pub returns : goal.returns
returns c a b ns t still =
    let k : WorldOf a b ns = c.any_honest_subnet_is_that_of_a_world.ensures a b ns t in
    finished a b ns k
    (λ pair. c.the_histories_are_of_the_notes_of_each_host.ensures.here k.more k.world pair k.is)
    (λ pair. c.the_histories_are_of_the_notes_of_each_host.ensures.there k.more k.world pair k.is)
    (c.where_nothing_can_happen_two_are_finished.ensures.finished k.more k.world k.is)
    still
