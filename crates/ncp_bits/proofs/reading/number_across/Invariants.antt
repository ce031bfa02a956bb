use Rattle.std.proofs.Common.{◌≡◌, ◌≤◌, ◌-◌}
use Rattle.ncp_numbers.specs.Numbers.{number_of}
use Rattle.ncp_bits.specs.Packed.{bit_run}
use Rattle.ncp_bits.proofs.reading.number_across.Given as goal

abbrev pub invariant-loop-done : goal.invariant-loop-done
invariant-loop-done l = record {
  inside : l.done ≤ l.width;
  number : l.number ≡ number_of (bit_run l.bytes l.from l.done);
}

abbrev pub decreases-loop-done : goal.decreases-loop-done
decreases-loop-done l = l.width - l.done
