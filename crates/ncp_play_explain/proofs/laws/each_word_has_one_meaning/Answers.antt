-- By comparing each two.
use Rattle.std.proofs.Common.{refl}
use Rattle.ncp_play_explain.specs.Printed.{printed}
use Rattle.ncp_play_explain.proofs.Apart.{pairs_distinct}
use Rattle.ncp_play_explain.proofs.laws.each_word_has_one_meaning.Goals as goal

pub returns : goal.returns
returns c = pairs_distinct printed refl
