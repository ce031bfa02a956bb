use Rattle.std.proofs.Common.{sym}
use Rattle.ncp_bits.proofs.Runs.{get_or-bits_of_bytes}
use Rattle.ncp_bits.proofs.reading.bit_in.Goals as goal

pub returns : goal.returns
returns c = sym (get_or-bits_of_bytes c.args.bytes.now c.args.place c.requires)
