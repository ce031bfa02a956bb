use Rattle.ncp_transcript_many.proofs.Beginning.{begins}
use Rattle.ncp_transcript_many.proofs.examples.three_hosts_can_begin.Goals as goal

pub returns : goal.returns
returns c = begins
