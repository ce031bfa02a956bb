use Rattle.std.proofs.Common.{refl}
use Rattle.ncp_play_files.proofs.version.direction_by.Goals as goal

pub returns-in-73 : goal.returns-in-73
returns-in-73 c = rw c.in-73.is refl
