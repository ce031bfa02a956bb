use Rattle.ncp_play_command_line.specs.CommandLine.{auditing}
use Rattle.ncp_play_command_line.proofs.Subcommands.{has_also}
use Rattle.ncp_play_command_line.proofs.command_line.and_audit.Goals as goal

pub returns : goal.returns
returns c = has_also c.and_also.result c.auditing.result c.args.program auditing c.auditing.ensures.local c.auditing.ensures.shape c.and_also.ensures
