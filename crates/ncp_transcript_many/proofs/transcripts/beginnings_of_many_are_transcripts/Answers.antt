use Rattle.ncp_transcript_many.proofs.ManyRuns.{many-begins}
use Rattle.ncp_transcript_many.proofs.transcripts.beginnings_of_many_are_transcripts.Goals as goal

pub returns : goal.returns
returns c = many-begins
