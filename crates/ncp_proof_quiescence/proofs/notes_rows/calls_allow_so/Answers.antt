use Rattle.std.proofs.Common.{◌*◌, Option, refl, ap, arith}
use Rattle.ncp_model.specs.Endpoint.{Endpoint}
use Rattle.ncp_model.specs.Peers.{Give}
use Rattle.ncp_proof_progress.specs.Work.{call_budget}
use Rattle.ncp_proof_quiescence.proofs.notes_rows.calls_allow_so.Goals as goal

pub returns-clause-asks : goal.returns-clause-asks
returns-clause-asks c pair size room r v = (refl, refl)

pub returns-clause-allocation : goal.returns-clause-allocation
returns-clause-allocation c pair messages bits r v = (refl, refl)

pub returns-clause-interrupt : goal.returns-clause-interrupt
returns-clause-interrupt c pair r v = refl

pub returns-clause-free : goal.returns-clause-free
returns-clause-free c pair bytes r v = (refl, refl)

pub returns-clause-give : goal.returns-clause-give
returns-clause-give c pair text r v e f = let h = ap (λ (o : Option Endpoint). 3 * call_budget (Give text) o) f in omega (arith, h)
