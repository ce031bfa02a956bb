use Rattle.std.proofs.Common.{◌≡◌, ◌*◌, ◌/◌, ◌-◌, ◌+◌, ℕ, length, take, subst, arith}
use Rattle.ncp_play_buffer.specs.Lines.{hex_of}
use Rattle.ncp_play_buffer.proofs.Digits.{front_written}
use Rattle.ncp_play_buffer.proofs.hex.write_hex.Goals.{then-bytes-gt-BLOCK, else-bytes-gt-BLOCK}
use Rattle.ncp_play_buffer.proofs.hex.write_hex.Goals as goal

pub write_pair-requires-clause-front : goal.write_pair-requires-clause-front
write_pair-requires-clause-front c = c.loop-pair.invariant

pub write_block-requires-clause-front : goal.write_block-requires-clause-front
write_block-requires-clause-front c =
    let all : c.loop-pair.pair ≡ length c.args.bytes.now / 32 = omega (arith, c.loop-pair-test.false, c.loop-pair.auto.pair-end) in
    subst (λ (pair : ℕ). take (2 * (32 * pair)) c.loop-pair.out ≡ hex_of (take (32 * pair) c.args.bytes.now)) all c.loop-pair.invariant

pub write_block-requires-2-clause-front : goal.write_block-requires-2-clause-front
write_block-requires-2-clause-front c =
    let bytes = c.args.bytes.now in let from = length bytes - 16 in
    let all : c.loop-pair.pair ≡ length bytes / 32 = omega (arith, c.loop-pair-test.false, c.loop-pair.auto.pair-end) in
    elim c.if-bytes-gt-BLOCK.branch [
      | then-bytes-gt-BLOCK w ↦
          rw w.out-is (front_written w.write_block.new.out bytes from (32 * (length bytes / 32) + 16) (omega (arith, w.if-bytes-gt-BLOCK.true)) (omega (arith, w.if-bytes-gt-BLOCK.true)) w.write_block.ensures.digits)
      | else-bytes-gt-BLOCK w ↦
          rw w.out-is (front_written c.loop-pair.out bytes from (32 * c.loop-pair.pair) (omega (arith, all, w.if-bytes-gt-BLOCK.false)) (omega (arith, all)) c.loop-pair.invariant)
    ]
