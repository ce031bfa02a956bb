use Rattle.ncp_proof_runs.proofs.Taken.{taken-noted}
use Rattle.ncp_proof_runs.proofs.histories.what_take_answers_is_taken.Goals as goal

pub returns : goal.returns
returns c bytes text me ns before after n pair from = taken-noted me ns before after n pair bytes text from
