use Rattle.std.proofs.Common.{◌≡◌}
use Rattle.ncp_numbers.specs.Bytes.{bytes_of}
use Rattle.ncp_control.specs.Texts.{fault_among}
use Rattle.ncp_control.specs.Reading.{fault_in}
use Rattle.ncp_test_parts.proofs.control.fault_of_text.Given as goal

-- the fault is still to come
abbrev pub invariant-loop-item : goal.invariant-loop-item
invariant-loop-item l = fault_among l.item-iterator ≡ fault_in (bytes_of l.fn.text)
