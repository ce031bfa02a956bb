use Rattle.std.proofs.Common.{arith}
use Rattle.ncp_bits.proofs.Runs.{run_none}
use Rattle.ncp_bits.proofs.bits.Bits.new.Goals as goal

pub invariant_of-result : goal.invariant_of-result
invariant_of-result c = record { fits = omega arith; inside = omega arith }

pub returns : goal.returns
returns c = run_none c.new.result.items 0
