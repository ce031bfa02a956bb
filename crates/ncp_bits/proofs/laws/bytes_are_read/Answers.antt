use Rattle.ncp_bits.proofs.Joins.{read_bytes-bytes_of}
use Rattle.ncp_bits.proofs.laws.bytes_are_read.Goals as goal

pub returns : goal.returns
returns c = read_bytes-bytes_of
