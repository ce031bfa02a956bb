use Rattle.std.proofs.Common.{Err, sym, ap, ◌∙◌}
use Rattle.std.proofs.lemmas.Result.{err_from_is_err_and}
use Rattle.ncp_bits.proofs.bits.Bits.from_bytes.Goals as goal

pub returns-in_err-copy_from_bytes-clause-read : goal.returns-in_err-copy_from_bytes-clause-read
returns-in_err-copy_from_bytes-clause-read c =
    let p = err_from_is_err_and c.from_residual.result c.from_residual.ensures.1 in
    p.1 ∙ ap Err p.2 ∙ sym c.in_err-copy_from_bytes.ensures.err

pub returns-clause-read : goal.returns-clause-read
returns-clause-read c = sym c.in_ok-copy_from_bytes.ensures.ok

pub returns-clause-len : goal.returns-clause-len
returns-clause-len c = c.in_ok-copy_from_bytes.ensures.len
