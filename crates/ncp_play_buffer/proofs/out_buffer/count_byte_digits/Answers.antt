use Rattle.std.proofs.Common.{◌≡◌, inl, inr, arith}
use Rattle.std.proofs.lemmas.Bool.{cases_lt, lt-ltb, le-ltb}
use Rattle.ncp_play_buffer.proofs.Decimal.{length-one, length-two, length-three}
use Rattle.ncp_play_buffer.proofs.out_buffer.count_byte_digits.Goals as goal

pub returns-clause-digits : goal.returns-clause-digits
returns-clause-digits c =
    let number = c.args.number in
    let small = c.ranges.number.fits in
    elim (cases_lt number 10) [
      | inl one ↦
          let ten : c.from.result ≡ 0 = rw (le-ltb 9 number (omega arith)) at c.from.ensures in
          let hundred : c.from-2.result ≡ 0 = rw (le-ltb 99 number (omega arith)) at c.from-2.ensures in
          omega (arith, ten, hundred, length-one number one)
      | inr more ↦
          let ten : c.from.result ≡ 1 = rw (lt-ltb 9 number (omega arith)) at c.from.ensures in
          elim (cases_lt number 100) [
            | inl two ↦
                let hundred : c.from-2.result ≡ 0 = rw (le-ltb 99 number (omega arith)) at c.from-2.ensures in
                omega (arith, ten, hundred, length-two number more two)
            | inr three ↦
                let hundred : c.from-2.result ≡ 1 = rw (lt-ltb 99 number (omega arith)) at c.from-2.ensures in
                omega (arith, ten, hundred, length-three number three (omega (arith, small)))
          ]
    ]
