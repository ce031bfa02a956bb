use Rattle.ncp_play_command_line.specs.CommandLine.{converting}
use Rattle.ncp_play_command_line.proofs.Subcommands.{has_also}
use Rattle.ncp_play_command_line.proofs.command_line.and_convert.Goals as goal

pub returns : goal.returns
returns c = has_also c.and_also.result c.converting.result c.args.program converting c.converting.ensures.local c.converting.ensures.shape c.and_also.ensures
