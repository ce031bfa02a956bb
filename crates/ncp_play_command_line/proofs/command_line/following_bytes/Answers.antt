use Rattle.std.proofs.Common.{◌||◌, ◌∙◌, codes, ap}
use Rattle.clap.specs.Simple.{app_of, with_rule}
use Rattle.ncp_play_command_line.specs.CommandLine.{bytes_asked, flag_asked, following_lines}
use Rattle.ncp_play_command_line.proofs.Subcommands.{with_argument, stays_local}
use Rattle.ncp_play_command_line.proofs.command_line.following_bytes.Goals as goal

pub returns-clause-app : goal.returns-clause-app
returns-clause-app c =
    with_argument c.arg-2.result c.in_ok-arg.field-0 c.flag.result (with_rule following_lines bytes_asked) (flag_asked (codes "raw")) c.flag.ensures.local c.flag.ensures.rule
    (c.in_ok-arg.ensures.shape c.bytes.ensures.local ∙ ap (with_rule (app_of c.in_ok-following_lines.field-0)) c.bytes.ensures.rule ∙ ap (λ app. with_rule app bytes_asked) c.in_ok-following_lines.ensures.app)
    c.arg-2.ensures

pub returns-clause-local : goal.returns-clause-local
returns-clause-local c =
    stays_local c.arg-2.result c.in_ok-arg.field-0 c.flag.result c.flag.ensures.local
    (c.in_ok-arg.ensures.globals ∙ ap (λ b. b || c.bytes.result.global) c.in_ok-following_lines.ensures.local ∙ c.bytes.ensures.local) c.arg-2.ensures
