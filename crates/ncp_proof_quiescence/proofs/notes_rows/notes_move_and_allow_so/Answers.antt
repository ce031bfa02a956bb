use Rattle.std.proofs.Common.{refl}
use Rattle.ncp_proof_quiescence.specs.NotesWork.{notes_move, notes_allow}
use Rattle.ncp_proof_quiescence.proofs.notes_rows.notes_move_and_allow_so.Goals as goal

pub returns-clause-calls : goal.returns-clause-calls
unfolding notes_move notes_allow
returns-clause-calls c = (refl, refl)

pub returns-clause-refused : goal.returns-clause-refused
unfolding notes_move notes_allow
returns-clause-refused c = refl

pub returns-clause-lost : goal.returns-clause-lost
unfolding notes_move notes_allow
returns-clause-lost c = (refl, refl)

pub returns-clause-nothing : goal.returns-clause-nothing
unfolding notes_move notes_allow
returns-clause-nothing c = (refl, refl)
