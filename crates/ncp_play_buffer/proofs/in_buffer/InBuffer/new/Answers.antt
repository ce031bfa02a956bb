use Rattle.std.proofs.Common.{refl}
use Rattle.ncp_play_buffer.proofs.in_buffer.InBuffer.new.Goals as goal

pub returns : goal.returns
returns c = refl
