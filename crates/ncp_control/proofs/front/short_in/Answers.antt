use Rattle.std.proofs.Common.{◌∙◌}
use Rattle.ncp_control.proofs.Text.{number_of-short}
use Rattle.ncp_control.proofs.front.short_in.Goals as goal

pub returns : goal.returns
returns c = c.number.ensures.number ∙ number_of-short c.args.text.now c.args.offset c.requires.inside
