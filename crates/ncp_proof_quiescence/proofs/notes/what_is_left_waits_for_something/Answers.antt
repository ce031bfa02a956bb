use Rattle.ncp_proof_quiescence.proofs.NotesRest.{left-waits}
use Rattle.ncp_proof_quiescence.proofs.notes.what_is_left_waits_for_something.Goals as goal

pub returns : goal.returns
returns c = left-waits
