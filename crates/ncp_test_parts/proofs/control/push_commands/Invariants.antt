use Rattle.std.proofs.Common.{◌≡◌, ◌++◌}
use Rattle.ncp_numbers.specs.Bytes.{bytes_of}
use Rattle.ncp_control.specs.Texts.{commands_among, fault_among, EndsAtFault}
use Rattle.ncp_control.specs.Reading.{commands_in, fault_in}
use Rattle.ncp_test_parts.proofs.control.push_commands.Given as goal

-- the commands so far and those still to come are the text's, and so is the fault that ends them
abbrev pub invariant-loop-item : goal.invariant-loop-item
invariant-loop-item l = record {
  so_far : l.commands.items ++ commands_among l.item-iterator ≡ l.fn.commands.items ++ commands_in (bytes_of l.fn.text);
  fault : fault_among l.item-iterator ≡ fault_in (bytes_of l.fn.text);
  last : EndsAtFault l.item-iterator;
}
