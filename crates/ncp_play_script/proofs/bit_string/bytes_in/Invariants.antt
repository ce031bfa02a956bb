use Rattle.std.proofs.Common.{◌≡◌, ◌+◌, ◌*◌, ◌≤◌, ◌++◌, length, option_map, vec_capacity}
use Rattle.ncp_play_script.specs.BitStrings.{hex_bytes}
use Rattle.ncp_play_script.proofs.bit_string.bytes_in.Given as goal

abbrev pub invariant-loop-rest : goal.invariant-loop-rest
invariant-loop-rest l = record {
  bytes : hex_bytes l.digits ≡ option_map (λ behind. l.bytes.items ++ behind) (hex_bytes l.rest);
  room : 2 * length l.bytes.items + length l.rest ≤ 2 * vec_capacity l.bytes;
}

abbrev pub decreases-loop-rest : goal.decreases-loop-rest
decreases-loop-rest l = length l.rest
