use Rattle.std.proofs.Common.{ℕ, subst}
use Rattle.ncp_statement.specs.Statement.{Headline}
use Rattle.ncp_proof_statement.specs.HonestRuns.{WorldOf}
use Rattle.ncp_proof_statement.proofs.Dropping.{page-kept}
use Rattle.ncp_proof_statement.proofs.any_subnet.headline_over_any_subnet.Goals as goal

pub returns : goal.returns
returns c a b ns t =
    let k : WorldOf a b ns = c.any_honest_subnet_is_that_of_a_world.ensures a b ns t in
    let page : Headline k.world.number_a k.world.number_b k.more = c.transcripts_keep_the_page.ensures k.more k.world k.is in
    page-kept a b k.more ns (subst (λ (n : ℕ). Headline n b k.more) k.number_a (subst (λ (n : ℕ). Headline k.world.number_a n k.more) k.number_b page)) t.honest k.notes
