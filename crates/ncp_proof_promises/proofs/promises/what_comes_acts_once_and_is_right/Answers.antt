use Rattle.ncp_proof_promises.specs.Judged.{ActsOnce, MakesNoErr}
use Rattle.ncp_proof_promises.proofs.Each.{of-each-note}
use Rattle.ncp_proof_promises.proofs.Judging.{acts-once, makes-no-err}
use Rattle.ncp_proof_promises.proofs.promises.what_comes_acts_once_and_is_right.Goals as goal

pub returns-clause-once : goal.returns-clause-once
returns-clause-once c = of-each-note ActsOnce acts-once

pub returns-clause-right : goal.returns-clause-right
returns-clause-right c = of-each-note MakesNoErr makes-no-err
