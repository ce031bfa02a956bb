use Rattle.std.proofs.Common.{◌≡◌, ◌||◌, ◌∙◌, false, codes, rules, ap}
use Rattle.clap.specs.Simple.{app_of, new_app, with_rule}
use Rattle.clap.specs.Walk.{rule_of}
use Rattle.ncp_play_command_line.specs.CommandLine.{number_wanted, file_named}
use Rattle.ncp_play_command_line.proofs.Subcommands.{has_argument, stays_local}
use Rattle.ncp_play_command_line.proofs.command_line.converting.Goals as goal

pub returns-clause-shape : goal.returns-clause-shape
returns-clause-shape c =
    let number : rule_of c.help-at.result ≡ number_wanted = search rules in
    let local : c.help-at.result.global ≡ false = search rules in
    has_argument c.arg-2.result c.in_ok-arg.field-0 c.file.result (with_rule (new_app (codes "convert")) number_wanted) file_named c.file.ensures.local c.file.ensures.rule
    (c.in_ok-arg.ensures.shape local ∙ ap (with_rule (app_of c.bare.result)) number ∙ ap (λ app. with_rule app number_wanted) c.bare.ensures.app)
    c.arg-2.ensures

pub returns-clause-local : goal.returns-clause-local
returns-clause-local c =
    let local : c.help-at.result.global ≡ false = search rules in
    stays_local c.arg-2.result c.in_ok-arg.field-0 c.file.result c.file.ensures.local (c.in_ok-arg.ensures.globals ∙ ap (λ b. b || c.help-at.result.global) c.bare.ensures.local ∙ local) c.arg-2.ensures
