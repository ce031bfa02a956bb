use Rattle.std.proofs.Common.{arith}
use Rattle.ncp_numbers.specs.Bytes.{byte_bits}
use Rattle.ncp_numbers.proofs.Shifts.{shifted_join}
use Rattle.ncp_bits.proofs.append.joined_byte.Goals as goal

pub returns : goal.returns
unfolding byte_bits
returns c = shifted_join c.args.byte c.args.kept c.args.number c.args.count (omega arith) (omega arith) c.requires.number
