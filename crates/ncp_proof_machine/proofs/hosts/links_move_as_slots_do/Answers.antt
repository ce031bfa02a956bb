use Rattle.ncp_proof_machine.proofs.Moves.{control_moves, texts_move, control_is_heard, texts_are_heard}
use Rattle.ncp_proof_machine.proofs.hosts.links_move_as_slots_do.Goals as goal

pub returns-clause-control : goal.returns-clause-control
returns-clause-control c = control_moves

pub returns-clause-texts : goal.returns-clause-texts
returns-clause-texts c = texts_move

pub returns-clause-control_is_heard : goal.returns-clause-control_is_heard
returns-clause-control_is_heard c = control_is_heard

pub returns-clause-texts_are_heard : goal.returns-clause-texts_are_heard
returns-clause-texts_are_heard c = texts_are_heard
