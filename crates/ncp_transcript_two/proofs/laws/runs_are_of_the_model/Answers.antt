use Rattle.ncp_transcript_two.proofs.Runs.{run-ties, new-ties}
use Rattle.ncp_transcript_two.proofs.laws.runs_are_of_the_model.Goals as goal

pub returns : goal.returns
returns c = λ v es new ok. run-ties es v ok (new-ties v new)
