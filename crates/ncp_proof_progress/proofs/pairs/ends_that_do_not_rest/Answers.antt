use Rattle.std.proofs.Common.{refl, arith}
use Rattle.ncp_proof_progress.proofs.pairs.ends_that_do_not_rest.Goals as goal

pub returns-clause-busy : goal.returns-clause-busy
returns-clause-busy c r = cc r.busy

pub returns-clause-sender : goal.returns-clause-sender
returns-clause-sender c r = cc (r.sender refl)

pub returns-clause-receiver : goal.returns-clause-receiver
returns-clause-receiver c r = let h = (r.receiver refl).1 in absurd (omega (arith, h))
