use Rattle.ncp_statement.specs.Statement.{Headline}
use Rattle.ncp_transcript_many.proofs.EachPair.{for-two}
use Rattle.ncp_proof_statement.proofs.each_pair.each_pair_keeps_the_page.Goals as goal

pub returns : goal.returns
returns c ns m t a b i j differ = for-two (λ xs h v. Headline v.here v.there xs) c.transcripts_keep_the_page.ensures ns m t a b i j differ
