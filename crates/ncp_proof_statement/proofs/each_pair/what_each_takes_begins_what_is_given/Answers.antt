use Rattle.ncp_transcript_many.proofs.EachPair.{for-two}
use Rattle.ncp_proof_statement.specs.Moments.{TakenBegins}
use Rattle.ncp_proof_statement.proofs.each_pair.what_each_takes_begins_what_is_given.Goals as goal

pub returns : goal.returns
returns c ns m t a b i j differ = for-two (λ xs h v. TakenBegins xs) c.what_is_taken_begins_what_is_given.ensures ns m t a b i j differ
