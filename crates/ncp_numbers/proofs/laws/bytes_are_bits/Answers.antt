use Rattle.ncp_numbers.proofs.Packing.{bytes_of-bits_of_bytes, bits_of_bytes-bytes_of}
use Rattle.ncp_numbers.proofs.laws.bytes_are_bits.Goals as goal

pub returns-clause-bytes : goal.returns-clause-bytes
returns-clause-bytes c = bytes_of-bits_of_bytes

pub returns-clause-bits : goal.returns-clause-bits
returns-clause-bits c = bits_of_bytes-bytes_of
