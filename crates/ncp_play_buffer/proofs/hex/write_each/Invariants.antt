use Rattle.std.proofs.Common.{◌≡◌, ◌*◌, take}
use Rattle.ncp_play_buffer.specs.Lines.{hex_of}
use Rattle.ncp_play_buffer.proofs.hex.write_each.Given as goal

abbrev pub invariant-loop-place : goal.invariant-loop-place
invariant-loop-place l = take (2 * l.place) l.out ≡ hex_of (take l.place l.bytes)
