use Rattle.ncp_transcript_many.proofs.ByItself.{host-from, host-led}
use Rattle.ncp_transcript_many.proofs.transcripts.each_host_of_many_is_from_its_beginning.Goals as goal

pub returns-clause-run : goal.returns-clause-run
returns-clause-run c = host-from

pub returns-clause-host : goal.returns-clause-host
returns-clause-host c = host-led
