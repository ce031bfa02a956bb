use Rattle.ncp_play_command_line.specs.CommandLine.{auditing_coverage, file_named}
use Rattle.ncp_play_command_line.proofs.Subcommands.{has_argument, stays_local}
use Rattle.ncp_play_command_line.proofs.command_line.auditing.Goals as goal

pub returns-clause-shape : goal.returns-clause-shape
returns-clause-shape c =
    has_argument c.arg.result c.in_ok-auditing_coverage.field-0 c.file.result auditing_coverage file_named c.file.ensures.local c.file.ensures.rule c.in_ok-auditing_coverage.ensures.app c.arg.ensures

pub returns-clause-local : goal.returns-clause-local
returns-clause-local c =
    stays_local c.arg.result c.in_ok-auditing_coverage.field-0 c.file.result c.file.ensures.local c.in_ok-auditing_coverage.ensures.local c.arg.ensures
