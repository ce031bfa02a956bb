use Rattle.std.proofs.Common.{refl}
use Rattle.std.specs.Fmt.{digits}
use Rattle.ncp_play_world.proofs.laws.lines_of_moves.Goals as goal

pub returns : goal.returns
unfolding digits
returns c = refl
