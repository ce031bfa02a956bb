-- Digits that are no number of four bytes.
use Rattle.std.proofs.Common.{sym, ◌∙◌, arith}
use Rattle.ncp_play_explain.proofs.Numbers.{not_read}
use Rattle.ncp_play_explain.proofs.arguments.number_in.Goals as goal

pub returns-in-Err : goal.returns-in-Err
returns-in-Err c =
    not_read c.args.most c.args.word.now c.in-Err.field-0 (omega (arith, c.ranges.most.fits)) (sym c.has_digits.ensures ∙ c.if-not-has_digits.false)
    c.in-Err.ensures.value.0
