use Rattle.std.proofs.Common.{Ok, Err, sym, ap, ◌∙◌}
use Rattle.std.proofs.lemmas.Result.{err_from_is_err_and}
use Rattle.ncp_bits.proofs.part.Part.from_bytes.Goals as goal

pub returns-in_err-taken-clause-read : goal.returns-in_err-taken-clause-read
returns-in_err-taken-clause-read c =
    let p = err_from_is_err_and c.from_residual.result c.from_residual.ensures.1 in
    p.1 ∙ ap Err p.2 ∙ sym c.in_err-taken.ensures.err

pub returns-clause-read : goal.returns-clause-read
returns-clause-read c = ap Ok c.of_bytes.ensures.bits ∙ sym c.in_ok-taken.ensures.read

pub returns-clause-len : goal.returns-clause-len
returns-clause-len c = c.of_bytes.ensures.len
