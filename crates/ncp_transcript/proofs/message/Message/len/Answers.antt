use Rattle.std.proofs.Common.{length, ap, ◌∙◌}
use Rattle.ncp_transcript.proofs.message.Message.len.Goals as goal

pub returns-clause-len : goal.returns-clause-len
returns-clause-len c = c.self.invariant.len ∙ ap length c.self.view_is

pub returns-clause-fits : goal.returns-clause-fits
returns-clause-fits c = c.self.invariant.fits
