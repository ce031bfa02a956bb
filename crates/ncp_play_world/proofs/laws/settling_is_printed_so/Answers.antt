use Rattle.std.proofs.Common.{refl}
use Rattle.std.specs.Fmt.{digits}
use Rattle.ncp_play_world.proofs.laws.settling_is_printed_so.Goals as goal

pub returns : goal.returns
unfolding digits
returns c = record { line = refl }
