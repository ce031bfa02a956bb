use Rattle.std.proofs.Common.{refl}
use Rattle.ncp_proof_progress.specs.Work.{queue_work, causes_all}
use Rattle.ncp_proof_progress.proofs.rows.causes_are_met.Goals as goal

pub returns-clause-rts : goal.returns-clause-rts
unfolding queue_work causes_all
returns-clause-rts c = refl

pub returns-clause-str : goal.returns-clause-str
unfolding queue_work causes_all
returns-clause-str c = refl

pub returns-clause-cls : goal.returns-clause-cls
unfolding queue_work causes_all
returns-clause-cls c = refl

pub returns-clause-all : goal.returns-clause-all
unfolding queue_work causes_all
returns-clause-all c = refl

pub returns-clause-gvb : goal.returns-clause-gvb
unfolding queue_work causes_all
returns-clause-gvb c = refl

pub returns-clause-ret : goal.returns-clause-ret
unfolding queue_work causes_all
returns-clause-ret c = refl

pub returns-clause-inr : goal.returns-clause-inr
unfolding queue_work causes_all
returns-clause-inr c = refl

pub returns-clause-ins : goal.returns-clause-ins
unfolding queue_work causes_all
returns-clause-ins c = refl

pub returns-clause-text : goal.returns-clause-text
unfolding queue_work causes_all
returns-clause-text c = refl

pub returns-clause-text_out : goal.returns-clause-text_out
unfolding queue_work causes_all
returns-clause-text_out c = refl

pub returns-clause-text_out_takes_away : goal.returns-clause-text_out_takes_away
unfolding queue_work causes_all
returns-clause-text_out_takes_away c = refl

pub returns-clause-text_out_before : goal.returns-clause-text_out_before
unfolding queue_work causes_all
returns-clause-text_out_before c = refl
