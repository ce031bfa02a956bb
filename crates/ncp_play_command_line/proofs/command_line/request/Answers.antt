use Rattle.std.proofs.Common.{◌≡◌, ◌∙◌, map, true, sym, ap, subst, []}
use Rattle.clap.specs.Faults.{fault_of, is_simple_and_free}
use Rattle.clap.specs.Kinds.{HasKind}
use Rattle.clap.specs.Simple.{app_of, is_simple, subcommand_of}
use Rattle.clap.proofs.FaultLemmas.{failed_up}
use Rattle.ncp_play_command_line.specs.CommandLine.{order_of, program, word_given}
use Rattle.ncp_play_command_line.proofs.command_line.request.Goals as goal

pub returns-clause-named : goal.returns-clause-named
returns-clause-named g c =
    let app : app_of c.in_ok-program.program ≡ program = c.in_ok-program.ensures in
    let simple : is_simple (app_of c.in_ok-program.program) ≡ true = ap is_simple app in
    c.request_of.ensures.order ∙ ap order_of ((c.in_ok-matches.ensures.matches simple).1 ∙ ap (λ a. subcommand_of a (map g.S.AsStr.text c.args.words.now)) app)

pub returns-clause-word : goal.returns-clause-word
returns-clause-word g c =
    let app : app_of c.in_ok-program.program ≡ program = c.in_ok-program.ensures in
    let simple : is_simple (app_of c.in_ok-program.program) ≡ true = ap is_simple app in
    c.request_of.ensures.word ∙ ap word_given ((c.in_ok-matches.ensures.matches simple).1 ∙ ap (λ a. subcommand_of a (map g.S.AsStr.text c.args.words.now)) app)

pub returns-clause-kinds : goal.returns-clause-kinds
returns-clause-kinds g c =
    let app : app_of c.in_ok-program.program ≡ program = c.in_ok-program.ensures in
    let simple : is_simple_and_free (app_of c.in_ok-program.program) ≡ true = ap is_simple_and_free app in
    ap (λ a. fault_of a (map g.S.AsStr.text c.args.words.now)) (sym app) ∙ c.in_ok-matches.ensures.kinds simple

pub returns-in_err-matches-clause-kinds : goal.returns-in_err-matches-clause-kinds
returns-in_err-matches-clause-kinds g c =
    let app : app_of c.in_ok-program.program ≡ program = c.in_ok-program.ensures in
    let simple : is_simple_and_free (app_of c.in_ok-program.program) ≡ true = ap is_simple_and_free app in
    let kinds = fault_of program (map g.S.AsStr.text c.args.words.now) in
    let error = c.in_err-matches.field-0.0 in
    failed_up c.from_residual-in_err-matches.result error (λ _. kinds ≡ []) kinds c.from_residual-in_err-matches.ensures.1
    (subst (λ a. HasKind (fault_of a (map g.S.AsStr.text c.args.words.now)) error) app (c.in_err-matches.ensures.kinds simple))
