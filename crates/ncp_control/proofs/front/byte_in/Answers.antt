use Rattle.std.proofs.Common.{◌∙◌}
use Rattle.ncp_control.proofs.Text.{number_of-byte}
use Rattle.ncp_control.proofs.front.byte_in.Goals as goal

pub returns : goal.returns
returns c = c.number.ensures.number ∙ number_of-byte c.args.text.now c.args.offset c.requires.inside
