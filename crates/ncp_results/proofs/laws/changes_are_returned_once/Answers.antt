use Rattle.ncp_results.proofs.Once.{told}
use Rattle.ncp_results.proofs.laws.changes_are_returned_once.Goals as goal

pub returns : goal.returns
returns c = told
