use Rattle.std.proofs.Common.{refl}
use Rattle.ncp_proof_progress.specs.Work.{queue_work, causes_all}
use Rattle.ncp_proof_progress.proofs.rows.credits_are_met.Goals as goal

pub returns-clause-ask_to_send : goal.returns-clause-ask_to_send
unfolding queue_work causes_all
returns-clause-ask_to_send c = refl

pub returns-clause-ask_to_send_adds : goal.returns-clause-ask_to_send_adds
unfolding queue_work causes_all
returns-clause-ask_to_send_adds c = refl

pub returns-clause-ask_to_receive : goal.returns-clause-ask_to_receive
unfolding queue_work causes_all
returns-clause-ask_to_receive c = refl

pub returns-clause-ask_to_receive_adds : goal.returns-clause-ask_to_receive_adds
unfolding queue_work causes_all
returns-clause-ask_to_receive_adds c = refl

pub returns-clause-give : goal.returns-clause-give
unfolding queue_work causes_all
returns-clause-give c = refl

pub returns-clause-give_adds : goal.returns-clause-give_adds
unfolding queue_work causes_all
returns-clause-give_adds c = refl

pub returns-clause-allocate : goal.returns-clause-allocate
unfolding queue_work causes_all
returns-clause-allocate c = refl

pub returns-clause-allocate_adds : goal.returns-clause-allocate_adds
unfolding queue_work causes_all
returns-clause-allocate_adds c = refl

pub returns-clause-call_back : goal.returns-clause-call_back
unfolding queue_work causes_all
returns-clause-call_back c = refl

pub returns-clause-call_back_adds : goal.returns-clause-call_back_adds
unfolding queue_work causes_all
returns-clause-call_back_adds c = refl

pub returns-clause-interrupt : goal.returns-clause-interrupt
unfolding queue_work causes_all
returns-clause-interrupt c = refl

pub returns-clause-interrupt_adds : goal.returns-clause-interrupt_adds
unfolding queue_work causes_all
returns-clause-interrupt_adds c = refl

pub returns-clause-close : goal.returns-clause-close
unfolding queue_work causes_all
returns-clause-close c = refl

pub returns-clause-close_adds : goal.returns-clause-close_adds
unfolding queue_work causes_all
returns-clause-close_adds c = refl

pub returns-clause-take : goal.returns-clause-take
unfolding queue_work causes_all
returns-clause-take c = refl

pub returns-clause-take_adds : goal.returns-clause-take_adds
unfolding queue_work causes_all
returns-clause-take_adds c = refl
