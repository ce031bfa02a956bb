use Rattle.std.proofs.Common.{◌++◌, length, drop, List, Bool, ap, ◌∙◌}
use Rattle.ncp_numbers.specs.Bytes.{bytes_for, bytes_of}
use Rattle.ncp_bits.proofs.bits.Bits.to_bytes.Goals as goal

pub returns-clause-used : goal.returns-clause-used
returns-clause-used c = c.to_bytes.ensures.used ∙ ap (λ (bits : List Bool). bytes_for (length bits)) c.whole.ensures

pub returns-clause-bytes : goal.returns-clause-bytes
returns-clause-bytes c = c.to_bytes.ensures.bytes ∙ ap (λ (bits : List Bool). bytes_of bits ++ drop c.to_bytes.result c.args.out.now) c.whole.ensures
