use Rattle.std.proofs.Common.{length}
use Rattle.ncp_results.proofs.names.+answer_among.Given as goal

abbrev pub decreases-answer_among : goal.decreases-answer_among
decreases-answer_among l = length l.answers.now
