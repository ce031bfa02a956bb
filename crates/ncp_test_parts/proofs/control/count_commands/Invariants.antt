use Rattle.std.proofs.Common.{◌≡◌, ◌+◌, ◌≤◌, length}
use Rattle.ncp_numbers.specs.Bytes.{bytes_of}
use Rattle.ncp_control.specs.Texts.{commands_among}
use Rattle.ncp_control.specs.Reading.{commands_in}
use Rattle.ncp_test_parts.proofs.control.count_commands.Given as goal

-- the commands so far and those still to come are the text's
abbrev pub invariant-loop-item : goal.invariant-loop-item
invariant-loop-item l = record {
  counted : l.count + length (commands_among l.item-iterator) ≡ length (commands_in (bytes_of l.fn.text));
  few : l.count + length l.item-iterator ≤ 1024;
}
