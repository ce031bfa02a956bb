use Rattle.std.proofs.Common.{refl}
use Rattle.ncp_numbers.specs.Numbers.{number_of}
use Rattle.ncp_bits.proofs.Runs.{number_of_bytes-more}
use Rattle.ncp_bits.proofs.reading.number_of_bytes.Goals as goal

pub loop-byte-init : goal.loop-byte-init
unfolding number_of
loop-byte-init c = refl

pub loop-byte-preserved : goal.loop-byte-preserved
loop-byte-preserved c = number_of_bytes-more c.args.bytes.now c.loop-byte.byte-index c.loop-byte.number c.from.result c.requires c.loop-byte-test.true (c.type_inv.bytes c.loop-byte.byte-index) c.from.ensures c.loop-byte.invariant
