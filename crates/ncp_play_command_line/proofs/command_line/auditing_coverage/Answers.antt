use Rattle.std.proofs.Common.{◌||◌, ◌∙◌, codes, ap}
use Rattle.clap.specs.Simple.{app_of, with_rule}
use Rattle.ncp_play_command_line.specs.CommandLine.{flag_asked, auditing_rules}
use Rattle.ncp_play_command_line.proofs.Subcommands.{with_argument, stays_local}
use Rattle.ncp_play_command_line.proofs.command_line.auditing_coverage.Goals as goal

pub returns-clause-app : goal.returns-clause-app
returns-clause-app c =
    let coverage = flag_asked (codes "coverage") in
    with_argument c.arg-2.result c.in_ok-arg.field-0 c.flag-2.result (with_rule auditing_rules coverage) (flag_asked (codes "strict")) c.flag-2.ensures.local c.flag-2.ensures.rule
    (c.in_ok-arg.ensures.shape c.flag.ensures.local ∙ ap (with_rule (app_of c.in_ok-auditing_rules.field-0)) c.flag.ensures.rule ∙ ap (λ app. with_rule app coverage) c.in_ok-auditing_rules.ensures.app)
    c.arg-2.ensures

pub returns-clause-local : goal.returns-clause-local
returns-clause-local c =
    stays_local c.arg-2.result c.in_ok-arg.field-0 c.flag-2.result c.flag-2.ensures.local
    (c.in_ok-arg.ensures.globals ∙ ap (λ b. b || c.flag.result.global) c.in_ok-auditing_rules.ensures.local ∙ c.flag.ensures.local) c.arg-2.ensures
