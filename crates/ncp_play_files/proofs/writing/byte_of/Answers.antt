use Rattle.std.proofs.Common.{refl}
use Rattle.ncp_play_files.proofs.writing.byte_of.Goals as goal

pub returns-in-FromImp : goal.returns-in-FromImp
returns-in-FromImp c = rw c.in-FromImp.is refl
