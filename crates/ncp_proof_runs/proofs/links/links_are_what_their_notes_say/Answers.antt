use Rattle.ncp_proof_runs.proofs.InRuns.{slot_as_noted}
use Rattle.ncp_proof_runs.proofs.links.links_are_what_their_notes_say.Goals as goal

pub returns : goal.returns
returns c = λ me ns all n s from there on. slot_as_noted me ns all n on s from there
