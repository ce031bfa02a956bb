use Rattle.ncp_proof_quiescence.proofs.rows.messages_move_by_themselves.Goals as goal

pub returns-clause-out : goal.returns-clause-out
returns-clause-out c = λ side message w. tt

pub returns-clause-lost : goal.returns-clause-lost
returns-clause-lost c = λ side link w own. own

pub returns-clause-dead : goal.returns-clause-dead
returns-clause-dead c = λ side link w own. own

pub returns-clause-reset : goal.returns-clause-reset
returns-clause-reset c = λ side peer w own. own

pub returns-clause-none : goal.returns-clause-none
returns-clause-none c = λ side w own. own

pub returns-clause-nothing : goal.returns-clause-nothing
returns-clause-nothing c = λ side link wanted w own. own
