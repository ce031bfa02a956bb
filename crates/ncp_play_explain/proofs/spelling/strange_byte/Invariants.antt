-- What is strange in the rest is what is strange in all.
use Rattle.std.proofs.Common.{◌≡◌, ◌+◌, drop}
use Rattle.ncp_play_explain.specs.Spelling.{strange_byte, strange_from}
use Rattle.ncp_play_explain.proofs.spelling.strange_byte.Given as goal

abbrev pub invariant-loop-place : goal.invariant-loop-place
invariant-loop-place l = strange_byte l.text ≡ strange_from (l.place + 1) (drop l.place l.text)
