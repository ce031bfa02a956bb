use Rattle.ncp_transcript_two.proofs.Headlines.{of-rules}
use Rattle.ncp_transcript_two.proofs.transcripts.transcripts_are_of_the_rules.Goals as goal

pub returns : goal.returns
returns c = of-rules
