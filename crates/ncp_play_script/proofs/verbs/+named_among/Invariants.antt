use Rattle.std.proofs.Common.{length}
use Rattle.ncp_play_script.proofs.verbs.+named_among.Given as goal

abbrev pub decreases-named_among : goal.decreases-named_among
decreases-named_among l = length l.verbs.now
