use Rattle.ncp_transcript_two.specs.Transcript.{began}
use Rattle.ncp_proof_statement.proofs.CommandsRead.{read-all, right-all}
use Rattle.ncp_proof_statement.proofs.headline.each_command_is_read.Goals as goal

pub returns-clause-read : goal.returns-clause-read
returns-clause-read c ns w is = read-all ns (began w) (c.what_comes_acts_once_and_is_right.ensures.once ns w is)

pub returns-clause-right : goal.returns-clause-right
returns-clause-right c ns w is = right-all ns (began w) (c.what_comes_acts_once_and_is_right.ensures.right ns w is)
