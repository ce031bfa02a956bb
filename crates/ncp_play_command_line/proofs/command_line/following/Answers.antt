use Rattle.ncp_play_command_line.specs.CommandLine.{following_bytes, file_named}
use Rattle.ncp_play_command_line.proofs.Subcommands.{has_argument, stays_local}
use Rattle.ncp_play_command_line.proofs.command_line.following.Goals as goal

pub returns-clause-shape : goal.returns-clause-shape
returns-clause-shape c =
    has_argument c.arg.result c.in_ok-following_bytes.field-0 c.file.result following_bytes file_named c.file.ensures.local c.file.ensures.rule c.in_ok-following_bytes.ensures.app c.arg.ensures

pub returns-clause-local : goal.returns-clause-local
returns-clause-local c =
    stays_local c.arg.result c.in_ok-following_bytes.field-0 c.file.result c.file.ensures.local c.in_ok-following_bytes.ensures.local c.arg.ensures
