use Rattle.ncp_proof_quiescence.proofs.HostWork.{bits-work, goes-work}
use Rattle.ncp_proof_quiescence.proofs.RunWork.{whole-run}
use Rattle.ncp_proof_quiescence.proofs.host.no_peer_makes_a_host_send_for_ever.Goals as goal

pub returns-clause-comes : goal.returns-clause-comes
returns-clause-comes c = bits-work

pub returns-clause-goes : goal.returns-clause-goes
returns-clause-goes c = goes-work

pub returns-clause-run : goal.returns-clause-run
returns-clause-run c = whole-run
