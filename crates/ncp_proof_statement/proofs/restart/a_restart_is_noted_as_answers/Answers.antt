use Rattle.ncp_proof_statement.proofs.Restarting.{restarts-run}
use Rattle.ncp_proof_statement.proofs.restart.a_restart_is_noted_as_answers.Goals as goal

pub returns-clause-run : goal.returns-clause-run
returns-clause-run c number h n = (restarts-run number h n).0

pub returns-clause-after : goal.returns-clause-after
returns-clause-after c number h n = (restarts-run number h n).1
