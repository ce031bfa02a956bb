use Rattle.ncp_proof_machine.proofs.ResetRuns.{follows, follows_back}
use Rattle.ncp_proof_machine.proofs.resets.resets_come_before_what_follows.Goals as goal

pub returns-clause-there : goal.returns-clause-there
returns-clause-there c = follows

pub returns-clause-back : goal.returns-clause-back
returns-clause-back c = follows_back
