use Rattle.std.proofs.Common.{arith}
use Rattle.std.proofs.lemmas.Option.{IfSome_then}
use Rattle.ncp_bits.proofs.Runs.{length-part}
use Rattle.ncp_bits.proofs.part.Part.whole_bytes.Goals as goal

pub returns-clause-len : goal.returns-clause-len
returns-clause-len c = let h = c.bytes_in.ensures.len in rw (length-part c.self.invariant c.self.view_is) at h

pub returns-clause-fits : goal.returns-clause-fits
returns-clause-fits c = IfSome_then c.bytes_in.result c.bytes_in.ensures.len (λ bytes len. omega (arith, len, c.self.invariant.fits))
