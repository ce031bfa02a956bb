use Rattle.ncp_proof_runs.proofs.Quiet.{quiet_as_noted}
use Rattle.ncp_proof_runs.proofs.links.links_are_quiet_as_their_notes_say.Goals as goal

pub returns : goal.returns
returns c = quiet_as_noted
