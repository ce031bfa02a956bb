use Rattle.ncp_proof_promises.specs.Taking.{IsTaken}
use Rattle.ncp_transcript_many.proofs.NotesOfTwo.{each-note}
use Rattle.ncp_transcript_many.proofs.taking.what_goes_out_of_each_of_many_is_taken.Goals as goal

pub returns : goal.returns
returns c = each-note IsTaken c.each_output_is_accepted_after_its_note.ensures
