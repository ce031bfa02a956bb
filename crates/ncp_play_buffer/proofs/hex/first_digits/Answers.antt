use Rattle.std.proofs.Common.{◌/◌, ◌^◌, arith}
use Rattle.std.proofs.lemmas.Simd.{zip2_splat}
use Rattle.ncp_play_buffer.proofs.Digits.{can_look_up, looked_up}
use Rattle.ncp_play_buffer.proofs.hex.first_digits.Goals as goal

pub swizzle : goal.swizzle
swizzle c = can_look_up (λ byte. byte / 16) (λ byte h. omega arith) c.args.bytes _ c.fits-bytes (zip2_splat (λ a b. a / 2 ^ b) c.args.bytes 16 4 c.fits-bytes.0)

pub returns : goal.returns
returns c = looked_up (λ byte. byte / 16) (λ byte h. omega arith) c.args.bytes _ c.fits-bytes (zip2_splat (λ a b. a / 2 ^ b) c.args.bytes 16 4 c.fits-bytes.0)
