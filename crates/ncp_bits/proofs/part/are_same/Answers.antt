use Rattle.std.proofs.Common.{sym, ◌∙◌, arith}
use Rattle.ncp_bits.proofs.Same.{same_further}
use Rattle.ncp_bits.proofs.part.are_same.Goals as goal

pub loop-at-preserved : goal.loop-at-preserved
loop-at-preserved c = (c.loop-at.invariant.0, omega arith, same_further c.args.one.now c.args.other.now c.loop-at.at c.min-width.result c.requires (omega arith) c.loop-at.invariant.2 (sym c.number.ensures.number ∙ omega (arith, c.if-number.false) ∙ c.number-in-loop-at.ensures.number))
