use Rattle.std.proofs.Common.{ℕ, get_or, refl, ap, ◌∙◌}
use Rattle.ncp_play_buffer.specs.declared.hex.TheConstants.{DIGITS}
use Rattle.ncp_play_buffer.proofs.Digits.{digit_below}
use Rattle.ncp_play_buffer.proofs.hex.digit_of.Goals as goal

pub returns : goal.returns
returns c = ap (λ (k : ℕ). get_or DIGITS k 0) c.from.ensures ∙ digit_below 16 c.args.number refl c.requires
