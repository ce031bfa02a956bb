use Rattle.std.proofs.Common.{[], ◌∷◌}
use Rattle.ncp_pipe.specs.Pipe.{new_pipe}
use Rattle.ncp_pipe.specs.Accounts.{texts_taken, texts_given}
use Rattle.ncp_pipe.proofs.AllConnections.{good-run, good-new, ends}
use Rattle.ncp_pipe.proofs.pipes.each_bit_is_taken_once.Goals as goal

pub returns : goal.returns
returns c steps q r = ends q (texts_taken steps) (texts_given steps) (good-run steps new_pipe q ([] ∷ []) ([] ∷ []) good-new r)
