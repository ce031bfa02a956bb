use Rattle.ncp_bits.proofs.Runs.{length-part}
use Rattle.ncp_bits.proofs.part.Part.len.Goals as goal

pub returns-clause-len : goal.returns-clause-len
returns-clause-len c = length-part c.self.invariant c.self.view_is

pub returns-clause-fits : goal.returns-clause-fits
returns-clause-fits c = c.self.invariant.fits
