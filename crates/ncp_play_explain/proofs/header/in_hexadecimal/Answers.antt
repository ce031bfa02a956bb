-- A byte fills two digits.
use Rattle.std.proofs.Common.{arith, ◌≡◌, ◌<◌, ◌^◌, ◌-◌, [], false, ◌∙◌}
use Rattle.std.specs.Fmt.{digits, padded_integral, format_spec}
use Rattle.std.specs.String.{string_bytes}
use Rattle.std.proofs.lemmas.Fmt as fmt
use Rattle.std.proofs.lemmas.Result.{IfOk-weaker}
use Rattle.ncp_play_explain.specs.Bytes.{hex_glyphs}
use Rattle.ncp_play_explain.proofs.header.in_hexadecimal.Goals as goal

pub returns : goal.returns
returns c =
    let small : c.args.byte < 256 = omega (arith, c.ranges.byte.fits) in
    IfOk-weaker c.format.result (λ s. string_bytes s ≡ padded_integral (format_spec 32 0 4 2 (2 ^ 64 - 1)) false [] (digits 16 false c.args.byte)) (λ s. string_bytes s ≡ hex_glyphs c.args.byte)
    (λ s h. h ∙ fmt.hex_byte false c.args.byte small)
    (rw (c.laid_out.ensures, c.in_radix.ensures) at c.format.ensures.ok)
