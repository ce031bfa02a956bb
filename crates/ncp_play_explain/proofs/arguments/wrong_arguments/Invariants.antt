-- What is wrong with the arguments that are left, in the words that are left.
use Rattle.std.proofs.Common.{◌≡◌, drop, map}
use Rattle.ncp_play_explain.specs.Arguments.{arguments_printed, asked_argument}
use Rattle.ncp_play_explain.proofs.arguments.wrong_arguments.Given as goal

abbrev pub invariant-loop-argument : goal.invariant-loop-argument
invariant-loop-argument l = arguments_printed (map asked_argument l.arguments) (map (λ word. word.now) l.fn.words) ≡ arguments_printed (map asked_argument (drop l.argument-index l.arguments)) (map (λ word. word.now) l.left)
