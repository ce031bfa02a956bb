use Rattle.ncp_model.proofs.ResetLists.{purged, others-purged, purged_calm}
use Rattle.ncp_model.proofs.phases.purges_keep_resets.Goals as goal

pub returns-clause-kept : goal.returns-clause-kept
returns-clause-kept c = λ p. purged_calm (purged p.waiting) (others-purged p.waiting)

pub returns-clause-struck : goal.returns-clause-struck
returns-clause-struck c = λ p. others-purged p.waiting
