use Rattle.ncp_play_command_line.specs.CommandLine.{explaining}
use Rattle.ncp_play_command_line.proofs.Subcommands.{has_also}
use Rattle.ncp_play_command_line.proofs.command_line.and_explain.Goals as goal

pub returns : goal.returns
returns c = has_also c.and_also.result c.explaining.result c.args.program explaining c.explaining.ensures.local c.explaining.ensures.shape c.and_also.ensures
