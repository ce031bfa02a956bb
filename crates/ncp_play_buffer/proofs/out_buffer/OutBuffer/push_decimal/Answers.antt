use Rattle.std.proofs.Common.{◌++◌, ℕ, decimal, arith, ap, ◌∙◌, length}
use Rattle.std.proofs.lemmas.List.{length-append}
use Rattle.std.proofs.lemmas.Fmt.{length-decimal-le}
use Rattle.ncp_play_buffer.proofs.out_buffer.OutBuffer.push_decimal.Goals as goal

pub push_digits-requires : goal.push_digits-requires
push_digits-requires c = omega (arith, length-decimal-le 10 c.from.result (omega arith) (omega (arith, c.from.ensures)) (omega (arith, c.from.ensures)))

pub returns-clause-len : goal.returns-clause-len
returns-clause-len c =
    omega (arith, length-decimal-le 10 c.from.result (omega arith) (omega (arith, c.from.ensures)) (omega (arith, c.from.ensures)), simp length-append at (ap length c.push_digits.ensures))

pub returns-clause-bytes : goal.returns-clause-bytes
returns-clause-bytes c = c.push_digits.ensures ∙ ap (λ (number : ℕ). c.args.self.now ++ decimal number) c.from.ensures
