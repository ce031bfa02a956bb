use Rattle.std.proofs.Common.{refl}
use Rattle.ncp_play_files.proofs.file.FileFault.name.Goals as goal

pub returns-in-WriteFailed : goal.returns-in-WriteFailed
returns-in-WriteFailed c = rw c.in-WriteFailed.is refl
