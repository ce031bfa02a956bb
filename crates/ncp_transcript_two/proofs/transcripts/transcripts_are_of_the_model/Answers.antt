use Rattle.ncp_transcript_two.proofs.Headlines.{of-model}
use Rattle.ncp_transcript_two.proofs.transcripts.transcripts_are_of_the_model.Goals as goal

pub returns : goal.returns
returns c = of-model
