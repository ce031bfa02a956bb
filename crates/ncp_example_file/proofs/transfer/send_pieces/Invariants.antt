use Rattle.ncp_example_file.proofs.Transferring.{IsUnderway}
use Rattle.ncp_example_file.proofs.transfer.send_pieces.Given as goal

abbrev pub invariant-loop-round : goal.invariant-loop-round
invariant-loop-round g l = IsUnderway l.file l.given l.missing l.world.notes
