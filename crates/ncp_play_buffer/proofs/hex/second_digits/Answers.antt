use Rattle.std.proofs.Common.{◌%◌, ◌∙◌, bit_and, arith}
use Rattle.std.proofs.lemmas.Simd.{zip2_splat}
use Rattle.ncp_play_buffer.proofs.Digits.{can_look_up, looked_up, masked}
use Rattle.ncp_play_buffer.proofs.hex.second_digits.Goals as goal

pub swizzle : goal.swizzle
swizzle c = can_look_up (λ byte. byte % 16) (λ byte h. omega arith) c.args.bytes _ c.fits-bytes (zip2_splat bit_and c.args.bytes 16 15 c.fits-bytes.0 ∙ masked c.args.bytes)

pub returns : goal.returns
returns c = looked_up (λ byte. byte % 16) (λ byte h. omega arith) c.args.bytes _ c.fits-bytes (zip2_splat bit_and c.args.bytes 16 15 c.fits-bytes.0 ∙ masked c.args.bytes)
