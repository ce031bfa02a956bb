use Rattle.std.proofs.Common.{◌≡◌, ◌^◌, ◌<◌, drop}
use Rattle.std.specs.Str.{all_ascii_digits}
use Rattle.ncp_play_script.specs.Words.{value_after}
use Rattle.ncp_play_script.proofs.numbers.value_of.Given as goal

abbrev pub invariant-loop-digit : goal.invariant-loop-digit
invariant-loop-digit l = record {
  value : value_after l.value (drop l.digit-index l.word) ≡ value_after 0 l.word;
  digits : all_ascii_digits (drop l.digit-index l.word) ≡ all_ascii_digits l.word;
  small : l.value < 10 ^ l.digit-index;
}
