use Rattle.std.proofs.Common.{ap, ◌∙◌, arith}
use Rattle.ncp_numbers.specs.Numbers.{number_of}
use Rattle.ncp_bits.proofs.Runs.{run_of_bytes}
use Rattle.ncp_bits.proofs.reading.number_in.Goals as goal

pub returns-then-width-eq0 : goal.returns-then-width-eq0
returns-then-width-eq0 c = c.number_of_bytes.ensures ∙ ap number_of (run_of_bytes c.args.bytes.now c.args.from c.args.width c.if-from-eq0.true c.if-width-eq0.true (omega arith))
