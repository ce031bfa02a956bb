use Rattle.std.proofs.Common.{refl}
use Rattle.std.specs.Fmt.{digits}
use Rattle.ncp_play_notes.proofs.laws.bits_that_came.Goals as goal

pub returns : goal.returns
unfolding digits
returns c = refl
