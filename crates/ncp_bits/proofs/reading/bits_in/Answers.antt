use Rattle.ncp_numbers.specs.Bytes.{byte_bits}
use Rattle.ncp_numbers.proofs.Shifts.{shifted_part}
use Rattle.ncp_bits.proofs.reading.bits_in.Goals as goal

pub returns : goal.returns
unfolding byte_bits
returns c = shifted_part c.args.byte c.args.skip c.args.count c.requires.inside
