use Rattle.ncp_play_command_line.specs.CommandLine.{following}
use Rattle.ncp_play_command_line.proofs.Subcommands.{has_also}
use Rattle.ncp_play_command_line.proofs.command_line.and_follow.Goals as goal

pub returns : goal.returns
returns c = has_also c.and_also.result c.following.result c.args.program following c.following.ensures.local c.following.ensures.shape c.and_also.ensures
