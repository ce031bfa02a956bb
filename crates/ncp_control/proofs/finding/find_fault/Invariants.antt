use Rattle.std.proofs.Common.{◌≡◌, ◌≤◌, ◌-◌, drop}
use Rattle.ncp_numbers.specs.Bytes.{bytes_of}
use Rattle.ncp_control.specs.Reading.{fault_in}
use Rattle.ncp_control.proofs.finding.find_fault.Given as goal

-- the fault is still to come
abbrev pub invariant-loop-offset : goal.invariant-loop-offset
invariant-loop-offset l = record {
  inside : l.offset ≤ l.count;
  fault : fault_in (drop l.offset (bytes_of l.text)) ≡ fault_in (bytes_of l.text);
}

abbrev pub decreases-loop-offset : goal.decreases-loop-offset
decreases-loop-offset l = l.count - l.offset
