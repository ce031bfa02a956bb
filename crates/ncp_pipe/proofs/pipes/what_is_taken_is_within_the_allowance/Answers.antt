use Rattle.std.proofs.Common.{[], ◌∷◌}
use Rattle.ncp_pipe.specs.Pipe.{new_pipe}
use Rattle.ncp_pipe.specs.Accounts.{texts_taken, allowance_after, no_allowance}
use Rattle.ncp_pipe.proofs.Within.{fits-run, fits-new, within}
use Rattle.ncp_pipe.proofs.pipes.what_is_taken_is_within_the_allowance.Goals as goal

pub returns : goal.returns
returns c steps q r = within q (texts_taken steps) (allowance_after steps no_allowance) (fits-run steps new_pipe q ([] ∷ []) no_allowance fits-new r)
