use Rattle.std.proofs.Common.{◌≡◌, ◌*◌, take}
use Rattle.ncp_play_buffer.specs.Lines.{hex_of}
use Rattle.ncp_play_buffer.proofs.hex.write_hex.Given as goal

abbrev pub invariant-loop-pair : goal.invariant-loop-pair
invariant-loop-pair l = take (2 * (32 * l.pair)) l.out ≡ hex_of (take (32 * l.pair) l.bytes)
