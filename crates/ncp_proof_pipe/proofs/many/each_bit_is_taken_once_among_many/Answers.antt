use Rattle.ncp_transcript_many.proofs.EachPair.{for-two}
use Rattle.ncp_proof_pipe.specs.Noted.{TakenOnce}
use Rattle.ncp_proof_pipe.proofs.many.each_bit_is_taken_once_among_many.Goals as goal

pub returns : goal.returns
returns c ns m t a b i j differ = for-two (λ xs h v. TakenOnce xs) c.each_bit_is_taken_once_ever.ensures ns m t a b i j differ
