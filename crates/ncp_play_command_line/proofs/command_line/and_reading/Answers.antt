use Rattle.ncp_play_command_line.specs.CommandLine.{reading}
use Rattle.ncp_play_command_line.proofs.Subcommands.{has_also}
use Rattle.ncp_play_command_line.proofs.command_line.and_reading.Goals as goal

pub returns : goal.returns
returns c = has_also c.and_also.result c.reading.result c.args.program (reading c.args.name.now) c.reading.ensures.local c.reading.ensures.shape c.and_also.ensures
