use Rattle.std.proofs.Common.{arith}
use Rattle.ncp_numbers.specs.Bytes.{byte_bits}
use Rattle.ncp_numbers.proofs.Shifts.{shifted_across}
use Rattle.ncp_bits.proofs.writing.byte_across.Goals as goal

pub returns : goal.returns
unfolding byte_bits
returns c = shifted_across c.args.first c.args.second c.args.skip (omega arith) (omega arith)
