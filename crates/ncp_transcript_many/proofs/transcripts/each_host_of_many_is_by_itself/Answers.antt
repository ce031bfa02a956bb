use Rattle.ncp_transcript_many.proofs.ByItself.{by-itself}
use Rattle.ncp_transcript_many.proofs.transcripts.each_host_of_many_is_by_itself.Goals as goal

pub returns : goal.returns
returns c ns m t k there = by-itself ns m k t there
