use Rattle.ncp_model.proofs.Makes.{none-reset}
use Rattle.ncp_model.proofs.phases.acts_make_no_resets.Goals as goal

pub returns : goal.returns
returns c = none-reset
