use Rattle.std.proofs.Common.{arith, ap, length}
use Rattle.std.proofs.lemmas.List.{length-append}
use Rattle.std.proofs.lemmas.Fmt.{length-decimal-le}
use Rattle.ncp_play_buffer.proofs.out_buffer.OutBuffer.push_long.Goals as goal

pub push_digits-requires : goal.push_digits-requires
push_digits-requires c = omega (arith, length-decimal-le 20 c.args.number (omega arith) (omega arith) (omega arith))

pub returns-clause-len : goal.returns-clause-len
returns-clause-len c =
    omega (arith, length-decimal-le 20 c.args.number (omega arith) (omega arith) (omega arith), simp length-append at (ap length c.push_digits.ensures))

pub returns-clause-bytes : goal.returns-clause-bytes
returns-clause-bytes c = c.push_digits.ensures
