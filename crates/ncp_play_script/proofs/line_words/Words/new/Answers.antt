use Rattle.std.proofs.Common.{refl}
use Rattle.ncp_play_script.proofs.line_words.Words.new.Goals as goal

pub returns : goal.returns
returns c = refl
