use Rattle.ncp_transcript_many.proofs.TwoOfMany.{two-by-numbers}
use Rattle.ncp_transcript_many.proofs.transcripts.a_world_of_two_is_one_of_many.Goals as goal

pub returns : goal.returns
returns c = two-by-numbers
