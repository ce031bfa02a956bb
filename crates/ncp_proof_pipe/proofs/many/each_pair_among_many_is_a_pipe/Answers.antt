use Rattle.ncp_transcript_many.proofs.EachPair.{for-two}
use Rattle.ncp_proof_pipe.specs.Noted.{ArePipesWithReasons}
use Rattle.ncp_proof_pipe.proofs.many.each_pair_among_many_is_a_pipe.Goals as goal

pub returns : goal.returns
returns c ns m t a b i j differ = for-two (λ xs h v. ArePipesWithReasons v xs) c.each_stop_has_a_reason.ensures ns m t a b i j differ
