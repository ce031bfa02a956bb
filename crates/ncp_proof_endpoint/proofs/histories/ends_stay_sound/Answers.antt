use Rattle.ncp_proof_endpoint.proofs.SoundEnds.{sound-after, sound-ever}
use Rattle.ncp_proof_endpoint.proofs.histories.ends_stay_sound.Goals as goal

pub returns-clause-ever : goal.returns-clause-ever
returns-clause-ever c = sound-ever

pub returns-clause-step : goal.returns-clause-step
returns-clause-step c = sound-after
