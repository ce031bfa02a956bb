use Rattle.ncp_play_script.proofs.Kept.{same_pieces, same_kind, same_text}
use Rattle.ncp_play_script.proofs.laws.kept_lines_determine_all.Goals as goal

pub returns-clause-pieces : goal.returns-clause-pieces
returns-clause-pieces c = same_pieces

pub returns-clause-kind : goal.returns-clause-kind
returns-clause-kind c = same_kind

pub returns-clause-text : goal.returns-clause-text
returns-clause-text c = same_text
