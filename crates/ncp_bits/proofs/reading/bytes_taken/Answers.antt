use Rattle.std.proofs.Common.{◌∙◌, sym, arith}
use Rattle.ncp_bits.proofs.Runs.{read_packed}
use Rattle.ncp_bits.proofs.reading.bytes_taken.Goals as goal

pub returns-clause-read : goal.returns-clause-read
returns-clause-read c =
    read_packed c.args.bytes.now c.args.len c.div_ceil-used.result (omega arith) (omega arith) (omega arith) (sym c.is_spare_set.ensures ∙ c.if-is_spare_set.false)
