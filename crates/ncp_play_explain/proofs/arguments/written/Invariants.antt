-- The forms of the arguments so far.
use Rattle.std.proofs.Common.{◌≡◌, map, take}
use Rattle.std.specs.String.{string_bytes}
use Rattle.ncp_play_explain.specs.Arguments.{asked_argument, form_printed}
use Rattle.ncp_play_explain.proofs.arguments.written.Given as goal

abbrev pub invariant-loop-argument : goal.invariant-loop-argument
invariant-loop-argument l = string_bytes l.text ≡ form_printed l.verb (map asked_argument (take l.argument-index l.arguments))
