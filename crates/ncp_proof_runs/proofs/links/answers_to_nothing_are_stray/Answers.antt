use Rattle.ncp_proof_runs.proofs.InRuns.{answer_received_noted}
use Rattle.ncp_proof_runs.proofs.links.answers_to_nothing_are_stray.Goals as goal

pub returns-clause-peer : goal.returns-clause-peer
returns-clause-peer c me ns before after n on how told from = (answer_received_noted me ns before after n on how told from).0

pub returns-clause-output : goal.returns-clause-output
returns-clause-output c me ns before after n on how told from = (answer_received_noted me ns before after n on how told from).1
