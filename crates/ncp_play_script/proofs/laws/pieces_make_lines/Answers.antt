use Rattle.ncp_play_script.proofs.ScriptLines.{piece_ends_line, no_lf_joined}
use Rattle.ncp_play_script.proofs.laws.pieces_make_lines.Goals as goal

pub returns-clause-ends : goal.returns-clause-ends
returns-clause-ends c = piece_ends_line

pub returns-clause-goes_on : goal.returns-clause-goes_on
returns-clause-goes_on c = no_lf_joined
