use Rattle.std.proofs.Common.{Option, Result, refl, ap, ◌∙◌}
use Rattle.ncp_leader.specs.declared.leader.Leader.{Leader}
use Rattle.ncp_leader.specs.declared.leader.Short.{Short}
use Rattle.ncp_slot.specs.Slots.{LinkSlot}
use Rattle.ncp_model.specs.Endpoint.{Endpoint}
use Rattle.ncp_model.specs.Peers.{Give}
use Rattle.ncp_proof_progress.specs.Work.{call_budget}
use Rattle.ncp_proof_quiescence.specs.RunWork.{one_if_free, one_if_new}
use Rattle.ncp_proof_quiescence.proofs.host_rows.notes_bring_so.Goals as goal

pub returns-clause-new : goal.returns-clause-new
returns-clause-new c message leader s e f = ap (λ (r : Result Leader Short). one_if_new r s) e ∙ ap (λ (slot : LinkSlot). one_if_free slot) f

pub returns-clause-again : goal.returns-clause-again
returns-clause-again c message leader s e f = ap (λ (r : Result Leader Short). one_if_new r s) e ∙ ap (λ (slot : LinkSlot). one_if_free slot) f

pub returns-clause-reset : goal.returns-clause-reset
returns-clause-reset c peer s = refl

pub returns-clause-refused : goal.returns-clause-refused
returns-clause-refused c call fault s = refl

pub returns-clause-give : goal.returns-clause-give
returns-clause-give c peer pair text s e f = ap (λ (o : Option Endpoint). call_budget (Give text) o) f
