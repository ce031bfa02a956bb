use Rattle.std.proofs.Common.{◌∙◌, codes, sym}
use Rattle.clap.specs.Matches.{found_of}
use Rattle.ncp_play_command_line.proofs.Words.{same_first}
use Rattle.ncp_play_command_line.proofs.command_line.word_in.Goals as goal

pub returns : goal.returns
returns c = c.get_str.ensures ∙ sym (same_first (found_of c.args.given.now) (codes "word"))
