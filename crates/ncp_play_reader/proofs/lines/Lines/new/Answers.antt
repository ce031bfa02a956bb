use Rattle.std.proofs.Common.{refl}
use Rattle.ncp_play_reader.proofs.lines.Lines.new.Goals as goal

pub returns : goal.returns
returns c = rw (c.new.ensures, c.new-2.ensures) refl
