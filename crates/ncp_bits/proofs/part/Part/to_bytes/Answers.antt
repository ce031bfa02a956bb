use Rattle.std.proofs.Common.{◌++◌, drop, List, Bool, ap, ◌∙◌, arith}
use Rattle.ncp_numbers.specs.Bytes.{bytes_of}
use Rattle.ncp_bits.proofs.Runs.{length-part}
use Rattle.ncp_bits.proofs.part.Part.to_bytes.Goals as goal

pub write_run-requires-clause-room : goal.write_run-requires-clause-room
write_run-requires-clause-room c = omega (arith, length-part c.self.invariant c.self.view_is)

pub returns-clause-used : goal.returns-clause-used
returns-clause-used c = omega (arith, length-part c.self.invariant c.self.view_is)

pub returns-clause-bytes : goal.returns-clause-bytes
returns-clause-bytes c = c.write_run.ensures.bytes ∙ ap (λ (bits : List Bool). bytes_of bits ++ drop c.write_run.result c.args.out.now) c.self.view_is
