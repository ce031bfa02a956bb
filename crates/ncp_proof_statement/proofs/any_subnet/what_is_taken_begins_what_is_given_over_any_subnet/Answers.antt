use Rattle.std.proofs.Common.{subst}
use Rattle.ncp_proof_statement.specs.Moments.{TakenBegins}
use Rattle.ncp_proof_statement.specs.HonestRuns.{WorldOf}
use Rattle.ncp_proof_statement.proofs.Dropping.{begins-all}
use Rattle.ncp_proof_statement.proofs.any_subnet.what_is_taken_begins_what_is_given_over_any_subnet.Goals as goal

pub returns : goal.returns
returns c a b ns t =
    let k : WorldOf a b ns = c.any_honest_subnet_is_that_of_a_world.ensures a b ns t in
    subst TakenBegins k.notes (begins-all k.more (c.what_is_taken_begins_what_is_given.ensures k.more k.world k.is))
