use Rattle.ncp_transcript_two.proofs.OneSide.{by_itself}
use Rattle.ncp_transcript_two.proofs.transcripts.each_host_is_by_itself.Goals as goal

pub returns : goal.returns
returns c = by_itself
