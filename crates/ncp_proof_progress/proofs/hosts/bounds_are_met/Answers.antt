use Rattle.std.proofs.Common.{refl}
use Rattle.ncp_proof_machine.specs.Hosts.{all_empty}
use Rattle.ncp_proof_progress.specs.HostsWork.{messages_moved, messages_allowed, held_texts}
use Rattle.ncp_proof_progress.proofs.hosts.bounds_are_met.Goals as goal

pub returns-clause-reset : goal.returns-clause-reset
unfolding messages_moved messages_allowed all_empty held_texts
returns-clause-reset c = (refl, refl)

pub returns-clause-lost : goal.returns-clause-lost
unfolding messages_moved messages_allowed all_empty held_texts
returns-clause-lost c = (refl, refl)

pub returns-clause-dead : goal.returns-clause-dead
unfolding messages_moved messages_allowed all_empty held_texts
returns-clause-dead c = (refl, refl)

pub returns-clause-echo : goal.returns-clause-echo
unfolding messages_moved messages_allowed all_empty held_texts
returns-clause-echo c = (refl, refl)
