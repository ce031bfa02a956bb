use Rattle.std.proofs.Common.{◌*◌, sym, ap, ◌∙◌}
use Rattle.ncp_play_script.proofs.HexDigits.{hex_none}
use Rattle.ncp_play_script.proofs.bit_string.message_of.Goals as goal

pub returns-then-word-used-clause-bits : goal.returns-then-word-used-clause-bits
returns-then-word-used-clause-bits c = sym (hex_none c.args.len c.args.word.now (λ e. c.if-word-used.true (e ∙ ap (λ n. 2 * n) (sym c.div_ceil-used.ensures))))
