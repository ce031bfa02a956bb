use Rattle.ncp_transcript_two.specs.Seen.{seen}
use Rattle.ncp_proof_pipe.proofs.Dropping.{once}
use Rattle.ncp_proof_pipe.proofs.notes.each_bit_is_taken_once_ever.Goals as goal

pub returns : goal.returns
returns c ns w t = once (seen w) ns c.each_bit_is_taken_once.ensures (c.each_pair_is_a_pipe.ensures ns w t)
