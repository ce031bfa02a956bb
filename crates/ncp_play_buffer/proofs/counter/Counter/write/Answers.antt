use Rattle.std.proofs.Common.{arith}
use Rattle.std.proofs.lemmas.Fmt.{length-decimal-le}
use Rattle.ncp_play_buffer.proofs.counter.Counter.write.Goals as goal

pub write_digits-requires : goal.write_digits-requires
write_digits-requires c =
    let few = length-decimal-le 10 c.from-wide.result (omega arith) (omega (arith, c.from-wide.ensures)) (omega (arith, c.from-wide.ensures)) in
    (omega (arith, c.count_digits-count.ensures), omega (arith, c.count_digits-count.ensures, few))
