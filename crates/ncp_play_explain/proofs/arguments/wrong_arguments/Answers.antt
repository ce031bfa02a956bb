-- The first word after the arguments.
use Rattle.std.proofs.Common.{◌++◌, Some, map, option_map, codes, sym, ap, ◌∙◌}
use Rattle.std.proofs.Math.ListN.{drop_of_length-le}
use Rattle.ncp_play_explain.specs.Arguments.{arguments_printed, asked_argument}
use Rattle.ncp_play_explain.proofs.arguments.wrong_arguments.Goals as goal

pub returns-in_ok-format-in-Some : goal.returns-in_ok-format-in-Some
returns-in_ok-format-in-Some c =
    ap Some c.in_ok-format-in-Some.ensures.ok ∙ ap (option_map (λ word. codes "'" ++ (word ++ codes "' is one word too many"))) c.in-Some.ensures
    ∙ sym (c.loop-argument.invariant ∙ ap (λ l. arguments_printed (map asked_argument l) (map (λ word. word.now) c.loop-argument.left.now)) (drop_of_length-le c.args.arguments.now c.loop-argument-test.false))
