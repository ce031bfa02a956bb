use Rattle.std.proofs.Common.{◌≡◌, codes, ap, ◌∙◌}
use Rattle.std.proofs.lemmas.Result.{IfOk-from_err}
use Rattle.clap.specs.Simple.{App, app_of, with_subcommand}
use Rattle.ncp_play_command_line.specs.CommandLine.{bare_program, converting, of_files, reading}
use Rattle.ncp_play_command_line.proofs.Subcommands.{is_with}
use Rattle.ncp_play_command_line.proofs.command_line.with_files.Goals as goal

pub returns-in_err-program : goal.returns-in_err-program
returns-in_err-program c = IfOk-from_err c.from_residual.result (λ command. app_of command ≡ of_files) c.from_residual.ensures.0

pub returns-in_err-program-2 : goal.returns-in_err-program-2
returns-in_err-program-2 c = IfOk-from_err c.from_residual-in_err-program-2.result (λ command. app_of command ≡ of_files) c.from_residual-in_err-program-2.ensures.0

pub returns-in_err-program-3 : goal.returns-in_err-program-3
returns-in_err-program-3 c = IfOk-from_err c.from_residual-in_err-program-3.result (λ command. app_of command ≡ of_files) c.from_residual-in_err-program-3.ensures.0

pub returns : goal.returns
returns c =
    let show = reading (codes "show") in let check = reading (codes "check") in let count = reading (codes "count") in
    is_with c.and_convert.result c.in_ok-program-3.program (with_subcommand (with_subcommand (with_subcommand bare_program show) check) count) converting
    (c.in_ok-program-3.ensures ∙ ap (λ (app : App). with_subcommand app count) (c.in_ok-program-2.ensures ∙ ap (λ (app : App). with_subcommand app check) (c.in_ok-program.ensures ∙ ap (λ (app : App). with_subcommand app show) c.bare_program.ensures)))
    c.and_convert.ensures
