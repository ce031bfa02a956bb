-- A program with one more subcommand, by clap's contract for adding it.
use Rattle.std.proofs.Common.{◌≡◌, ◌||◌, false, Result, Ok, Err, ap, ◌∙◌}
use Rattle.std.specs.Prelude.{IfOk, IsOkAnd}
use Rattle.std.specs.declared.alloc.AllocError.{AllocError}
use Rattle.std.proofs.lemmas.Result.{IfOk-weaker}
use Rattle.clap.specs.Built.{AddsArg}
use Rattle.clap.specs.Simple.{App, Shape, app_of, shape_of, with_rule, with_subcommand}
use Rattle.clap.specs.Walk.{Rule, rule_of}
use Rattle.clap.specs.declared.builder.arg.Arg.{Arg}
use Rattle.clap.specs.declared.builder.command.Command.{Command}
use Rattle.clap.specs.declared.builder.command.Command.TheViews.{out-Command}

-- a subcommand of this shape, without global arguments, if its allocation succeeded
pub has_also : (result sub : Result Command AllocError) (program : Command) (shape : Shape) → IfOk sub (λ s. (out-Command s).has_globals ≡ false) → IfOk sub (λ s. shape_of s ≡ shape)
    → IfOk result (λ command. IsOkAnd sub (λ s. (out-Command s).has_globals ≡ false → app_of command ≡ with_subcommand (app_of program) (shape_of s))) → IfOk result (λ command. app_of command ≡ with_subcommand (app_of program) shape)
has_also result (Ok s) program shape local is told =
    IfOk-weaker result (λ command. (out-Command s).has_globals ≡ false → app_of command ≡ with_subcommand (app_of program) (shape_of s)) (λ command. app_of command ≡ with_subcommand (app_of program) shape)
    (λ command adds. adds local ∙ ap (with_subcommand (app_of program)) is) told
has_also result (Err e) program shape local is told =
    IfOk-weaker result (λ command. ⊥) (λ command. app_of command ≡ with_subcommand (app_of program) shape) (λ command none. absurd none) told

-- for a program that is known
pub is_with : (result : Result Command AllocError) (program : Command) (app : App) (shape : Shape) → app_of program ≡ app
    → IfOk result (λ command. app_of command ≡ with_subcommand (app_of program) shape) → IfOk result (λ command. app_of command ≡ with_subcommand app shape)
is_with result program app shape is told =
    IfOk-weaker result (λ command. app_of command ≡ with_subcommand (app_of program) shape) (λ command. app_of command ≡ with_subcommand app shape) (λ command e. e ∙ ap (λ a. with_subcommand a shape) is) told

-- a command with one more argument, which is not global
pub with_argument : (result : Result Command AllocError) (command : Command) (arg : Arg) (app : App) (rule : Rule) → arg.global ≡ false → rule_of arg ≡ rule → app_of command ≡ app → IfOk result (AddsArg command arg)
    → IfOk result (λ new. app_of new ≡ with_rule app rule)
with_argument result command arg app rule local is known told =
    IfOk-weaker result (AddsArg command arg) (λ new. app_of new ≡ with_rule app rule) (λ new adds. adds.shape local ∙ ap (with_rule (app_of command)) is ∙ ap (λ a. with_rule a rule) known) told

-- and its shape
pub has_argument : (result : Result Command AllocError) (command : Command) (arg : Arg) (app : App) (rule : Rule) → arg.global ≡ false → rule_of arg ≡ rule → app_of command ≡ app → IfOk result (AddsArg command arg)
    → IfOk result (λ new. shape_of new ≡ (with_rule app rule).top)
has_argument result command arg app rule local is known told =
    IfOk-weaker result (AddsArg command arg) (λ new. shape_of new ≡ (with_rule app rule).top) (λ new adds. ap (λ (a : App). a.top) (adds.shape local ∙ ap (with_rule (app_of command)) is ∙ ap (λ a. with_rule a rule) known)) told

-- and it has no global arguments
pub stays_local : (result : Result Command AllocError) (command : Command) (arg : Arg) → arg.global ≡ false → (out-Command command).has_globals ≡ false → IfOk result (AddsArg command arg) → IfOk result (λ new. (out-Command new).has_globals ≡ false)
stays_local result command arg local none told =
    IfOk-weaker result (AddsArg command arg) (λ new. (out-Command new).has_globals ≡ false) (λ new adds. adds.globals ∙ ap (λ b. b || arg.global) none ∙ local) told
