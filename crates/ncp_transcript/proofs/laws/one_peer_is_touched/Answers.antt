use Rattle.ncp_transcript.proofs.Touching.{others_stay}
use Rattle.ncp_transcript.proofs.laws.one_peer_is_touched.Goals as goal

pub returns : goal.returns
returns c = others_stay
