use Rattle.std.proofs.Common.{◌/◌, sym, arith}
use Rattle.std.proofs.lemmas.Fmt.{length-decimal-le}
use Rattle.ncp_play_buffer.proofs.Decimal.{length-one, length-two, length-three, length-four, length-more, length-much-more}
use Rattle.ncp_play_buffer.proofs.out_buffer.+count_digits.Goals as goal

pub overflow_add-result : goal.overflow_add-result
overflow_add-result t c = omega (arith, c.count_digits.ensures, length-decimal-le 20 (c.args.number / 10000) (omega arith) (omega arith) (omega arith))

pub returns-then-number-lt10 : goal.returns-then-number-lt10
returns-then-number-lt10 t c = sym (length-one c.args.number (omega arith))

pub returns-then-number-lt100 : goal.returns-then-number-lt100
returns-then-number-lt100 t c = sym (length-two c.args.number (omega arith) (omega arith))

pub returns-then-number-lt1000 : goal.returns-then-number-lt1000
returns-then-number-lt1000 t c = sym (length-three c.args.number (omega arith) (omega arith))

pub returns-then-number-lt10000 : goal.returns-then-number-lt10000
returns-then-number-lt10000 t c = sym (length-four c.args.number (omega arith) (omega arith))

pub returns-then-number-lt100000000 : goal.returns-then-number-lt100000000
returns-then-number-lt100000000 t c = omega (arith, c.count_digits.ensures, length-more c.args.number (omega arith) (omega arith))

pub overflow_add-result-else-number-lt100000000 : goal.overflow_add-result-else-number-lt100000000
overflow_add-result-else-number-lt100000000 t c = omega (arith, c.count_digits-else-number-lt100000000.ensures, length-decimal-le 20 (c.args.number / 100000000) (omega arith) (omega arith) (omega arith))

pub returns-else-number-lt100000000 : goal.returns-else-number-lt100000000
returns-else-number-lt100000000 t c = omega (arith, c.count_digits-else-number-lt100000000.ensures, length-much-more c.args.number (omega arith) (omega arith))
