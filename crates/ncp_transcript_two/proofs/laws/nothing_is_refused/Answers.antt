use Rattle.ncp_transcript_two.proofs.Runs.{new-ties}
use Rattle.ncp_transcript_two.proofs.Refusals.{none-refused}
use Rattle.ncp_transcript_two.proofs.laws.nothing_is_refused.Goals as goal

pub returns : goal.returns
returns c = λ v es new ok. none-refused es v ok (new-ties v new)
