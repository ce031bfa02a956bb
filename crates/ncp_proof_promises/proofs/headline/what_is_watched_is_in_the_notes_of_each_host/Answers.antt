use Rattle.ncp_proof_promises.proofs.MadeWalk.{watched-alike}
use Rattle.ncp_proof_promises.proofs.headline.what_is_watched_is_in_the_notes_of_each_host.Goals as goal

pub returns-clause-made : goal.returns-clause-made
returns-clause-made c ns w side t = (watched-alike ns w t side).0

pub returns-clause-came : goal.returns-clause-came
returns-clause-came c ns w side t = (watched-alike ns w t side).1
