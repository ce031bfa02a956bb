use Rattle.ncp_transcript_two.specs.Transcript.{began}
use Rattle.ncp_proof_promises.proofs.Each.{of-each-note}
use Rattle.ncp_proof_statement.proofs.CommandsRead.{right-all, whole-all}
use Rattle.ncp_proof_statement.proofs.ErrFree.{GoesRight, goes-right}
use Rattle.ncp_proof_statement.proofs.headline.none_complains.Goals as goal

pub returns : goal.returns
returns c ns w is = whole-all ns (began w) (of-each-note GoesRight goes-right ns w is) (right-all ns (began w) (c.what_comes_acts_once_and_is_right.ensures.right ns w is))
