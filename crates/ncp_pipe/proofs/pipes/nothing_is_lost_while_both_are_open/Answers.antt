use Rattle.std.proofs.Common.{[], ◌∷◌}
use Rattle.ncp_pipe.specs.Pipe.{new_pipe}
use Rattle.ncp_pipe.specs.Accounts.{texts_taken, texts_given}
use Rattle.ncp_pipe.proofs.AllConnections.{good-run, good-new, open-both}
use Rattle.ncp_pipe.proofs.pipes.nothing_is_lost_while_both_are_open.Goals as goal

pub returns : goal.returns
returns c steps q r s o = open-both q (texts_taken steps) (texts_given steps) (good-run steps new_pipe q ([] ∷ []) ([] ∷ []) good-new r) s o
