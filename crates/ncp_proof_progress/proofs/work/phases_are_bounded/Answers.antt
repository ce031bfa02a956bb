use Rattle.ncp_model.specs.declared.limits.TheConstants.{MAX_CONTROL}
use Rattle.ncp_proof_progress.proofs.PhaseWork.{makes_all-work, queue-fitting, settles-work, down-work, resets-work, hears_rst-work}
use Rattle.ncp_proof_progress.proofs.work.phases_are_bounded.Goals as goal

pub returns-clause-makes : goal.returns-clause-makes
returns-clause-makes c = makes_all-work

pub returns-clause-sends : goal.returns-clause-sends
returns-clause-sends c = queue-fitting MAX_CONTROL

pub returns-clause-settles : goal.returns-clause-settles
returns-clause-settles c = settles-work

pub returns-clause-falls : goal.returns-clause-falls
returns-clause-falls c = down-work

pub returns-clause-resets : goal.returns-clause-resets
returns-clause-resets c = resets-work

pub returns-clause-hears_rst : goal.returns-clause-hears_rst
returns-clause-hears_rst c = hears_rst-work
