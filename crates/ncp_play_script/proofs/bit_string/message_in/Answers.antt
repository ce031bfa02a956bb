use Rattle.std.proofs.Common.{sym, ap, ◌∙◌}
use Rattle.std.specs.Result.{result_ok}
use Rattle.ncp_play_script.proofs.HexDigits.{hex_some}
use Rattle.ncp_play_script.proofs.bit_string.message_in.Goals as goal

pub returns : goal.returns
returns c =
    c.ok.ensures.value ∙ ap result_ok c.from_bytes.ensures
    ∙ sym (hex_some c.args.len c.args.word.now c.in_ok-bytes.bytes.items c.in_ok-bytes.ensures c.requires.digits)
