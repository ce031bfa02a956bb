use Rattle.ncp_transcript_many.proofs.Crowds.{between-after}
use Rattle.ncp_transcript_many.proofs.transcripts.two_of_many_are_a_world_of_two.Goals as goal

pub returns : goal.returns
returns c a b m note differ i j = between-after a b m differ note i j
