use Rattle.std.proofs.Common.{◌*◌, sym, ap, ◌∙◌}
use Rattle.std.specs.Result.{result_ok}
use Rattle.ncp_bits.specs.Bits.{read_bytes}
use Rattle.ncp_play_script.proofs.HexDigits.{hex_none, hex_some}
use Rattle.ncp_play_script.proofs.bit_string.bits_of.Goals as goal

pub returns-then-word-div_ceil : goal.returns-then-word-div_ceil
returns-then-word-div_ceil c = sym (hex_none c.args.len c.args.word.now (λ e. c.if-word-div_ceil.true (e ∙ ap (λ n. 2 * n) (sym c.div_ceil.ensures))))

pub returns : goal.returns
returns c =
    let bytes = c.in_ok-bytes.bytes.items in
    c.ok.ensures.value ∙ ap result_ok (c.from_bytes.ensures.read ∙ ap (λ bs. read_bytes bs c.args.len) c.as_slice.ensures.value)
    ∙ sym (hex_some c.args.len c.args.word.now bytes c.in_ok-bytes.ensures (c.if-word-div_ceil.false ∙ ap (λ n. 2 * n) c.div_ceil.ensures))
