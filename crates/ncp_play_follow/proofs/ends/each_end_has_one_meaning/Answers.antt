-- By comparing each two.
use Rattle.std.proofs.Common.{refl}
use Rattle.ncp_play_explain.proofs.Apart.{pairs_distinct}
use Rattle.ncp_play_follow.specs.Ends.{ends_by_word}
use Rattle.ncp_play_follow.proofs.ends.each_end_has_one_meaning.Goals as goal

pub returns : goal.returns
returns c = pairs_distinct ends_by_word refl
