use Rattle.std.proofs.Common.{length}
use Rattle.ncp_play_world_lines.proofs.moves.+move_among.Given as goal

abbrev pub decreases-move_among : goal.decreases-move_among
decreases-move_among l = length l.moves.now
